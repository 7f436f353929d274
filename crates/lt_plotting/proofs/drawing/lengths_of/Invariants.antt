use Rattle.std.proofs.Common.{◌≡◌, map, length, take}
use Rattle.lt_plotting.proofs.drawing.lengths_of.Given as goal

abbrev pub invariant-loop-column : goal.invariant-loop-column
invariant-loop-column l = l.lengths ≡ map (λ column. length column) (take l.column-index l.columns)
