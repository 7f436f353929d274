use Rattle.std.proofs.Common.{◌≡◌, ◌+◌, ◌++◌, take, drop, length}
use Rattle.std.specs.List.{sum_by}
use Rattle.lt_base.specs.Expression.{parts}
use Rattle.lt_base.specs.Calls.{equations_called}
use Rattle.lt_base.specs.Sizes.{cost, cut}
use Rattle.lt_check.specs.Shares.{nothing}
use Rattle.lt_check.proofs.sizing.share_of.Given as goal

abbrev pub invariant-equations : goal.invariant-equations
invariant-equations l = record {
  weight : l.weight ≡ cut (length l.function.decls + sum_by (λ e. cost 1 nothing e.1) (take l.equation-index l.equation-items));
  parts : l.parts ≡ cut (sum_by (λ e. parts e.1) (take l.equation-index l.equation-items));
  calls : l.calls ++ equations_called (drop l.equation-index l.equation-items) ≡ equations_called l.equation-items;
}
