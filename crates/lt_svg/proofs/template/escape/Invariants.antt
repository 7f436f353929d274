use Rattle.std.proofs.Common.{◌≡◌, ◌++◌, take}
use Rattle.std.specs.List.{flat_map}
use Rattle.lt_svg.specs.Pieces.{safe_byte}
use Rattle.lt_svg.proofs.template.escape.Given as goal

abbrev pub invariant-bytes : goal.invariant-bytes
invariant-bytes l = l.out ≡ l.initial.out ++ flat_map safe_byte (take l.byte-index l.text)
