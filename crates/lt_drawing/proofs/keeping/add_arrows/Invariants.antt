use Rattle.std.proofs.Common.{◌≡◌, ◌++◌, take}
use Rattle.std.specs.List.{flat_map}
use Rattle.lt_drawing.specs.Kept.{arrow_if}
use Rattle.lt_drawing.proofs.keeping.add_arrows.Given as goal

abbrev pub invariant-arrows : goal.invariant-arrows
invariant-arrows l = l.arrows ≡ l.initial.arrows ++ flat_map (arrow_if l.window l.node l.refused) (take l.arrow-index l.from)
