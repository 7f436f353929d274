use Rattle.std.proofs.Common.{◌≡◌, take}
use Rattle.std.specs.List.{sum_by}
use Rattle.lt_base.specs.Expression.{shape}
use Rattle.lt_base.specs.Sizes.{cost, cut, in_table}
use Rattle.lt_base.proofs.weights.+cost.Given as goal

abbrev pub invariant-loop-a : goal.invariant-loop-a
invariant-loop-a l = l.sum ≡ cut (sum_by (λ e. cost l.delay (in_table l.table) (shape e)) (take l.a-index l.a-items))
