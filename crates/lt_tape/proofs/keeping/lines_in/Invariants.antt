use Rattle.std.proofs.Common.{◌≡◌, take}
use Rattle.std.specs.List.{flat_map}
use Rattle.lt_tape.specs.Kept.{line_within}
use Rattle.lt_tape.proofs.keeping.lines_in.Given as goal

abbrev pub invariant-strokes : goal.invariant-strokes
invariant-strokes l = l.lines ≡ flat_map (line_within l.window) (take l.stroke-index l.strokes)
