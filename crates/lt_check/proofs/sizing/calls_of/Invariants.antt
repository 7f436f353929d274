use Rattle.std.proofs.Common.{◌≡◌, ◌++◌, drop}
use Rattle.lt_base.specs.Calls.{equations_called}
use Rattle.lt_check.proofs.sizing.calls_of.Given as goal

abbrev pub invariant-equations : goal.invariant-equations
invariant-equations l = l.list ++ equations_called (drop l.equation-index l.equation-items) ≡ equations_called l.equation-items
