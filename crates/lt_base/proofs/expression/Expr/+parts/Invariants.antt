use Rattle.std.proofs.Common.{◌≡◌, ◌+◌, ◌-◌, ◌^◌, min, take}
use Rattle.std.specs.List.{sum_by}
use Rattle.lt_base.specs.Expression.{shape, parts}
use Rattle.lt_base.proofs.expression.Expr.+parts.Given as goal

abbrev pub invariant-loop-a : goal.invariant-loop-a
invariant-loop-a l = l.sum ≡ min (1 + sum_by (λ e. parts (shape e)) (take l.a-index l.a-items)) (2 ^ 64 - 1)
