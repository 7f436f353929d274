use Rattle.std.proofs.Common.{◌≡◌, ◌+◌, take}
use Rattle.std.specs.List.{sum_by}
use Rattle.lt_base.specs.Expression.{parts}
use Rattle.lt_base.specs.Sizes.{cost, cut, in_table}
use Rattle.lt_base.proofs.weights.parts_of.Given as goal

abbrev pub invariant-loop-equation : goal.invariant-loop-equation
invariant-loop-equation l = l.sum ≡ cut (sum_by (λ e. parts e.1 + cost 0 (in_table l.table) e.1) (take l.equation-index l.equation-items))
