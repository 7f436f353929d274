use Rattle.std.proofs.Common.{◌≡◌, map, take}
use Rattle.lt_base.specs.Sizes.{cut, in_table}
use Rattle.lt_base.specs.Measured.{measured}
use Rattle.lt_base.proofs.weights.next_table.Given as goal

abbrev pub invariant-loop-f : goal.invariant-loop-f
invariant-loop-f l = l.next.items ≡ map (λ f. cut (measured l.measure (in_table l.table) f)) (take l.f-index l.functions)
