use Rattle.std.proofs.Common.{◌≡◌, ◌+◌, take, length}
use Rattle.std.specs.List.{sum_by}
use Rattle.lt_base.specs.Sizes.{cost, cut, in_table}
use Rattle.lt_base.proofs.weights.weight_of.Given as goal

abbrev pub invariant-loop-equation : goal.invariant-loop-equation
invariant-loop-equation l = l.sum ≡ cut (length l.f.decls + sum_by (λ e. cost 1 (in_table l.table) e.1) (take l.equation-index l.equation-items))
