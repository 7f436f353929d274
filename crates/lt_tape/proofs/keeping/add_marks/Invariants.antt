use Rattle.std.proofs.Common.{◌≡◌, ◌++◌, take}
use Rattle.std.specs.List.{flat_map}
use Rattle.lt_tape.specs.Kept.{mark_in}
use Rattle.lt_tape.proofs.keeping.add_marks.Given as goal

abbrev pub invariant-strokes : goal.invariant-strokes
invariant-strokes l = l.marks ≡ l.initial.marks ++ flat_map (mark_in l.window) (take l.stroke-index l.strokes)
