use Rattle.std.proofs.Common.{◌≡◌, take}
use Rattle.lt_c.specs.Uses.{statement_calls}
use Rattle.lt_c_step.specs.Translate.{of_lets}
use Rattle.lt_c_step.proofs.uses.lets_calls.Given as goal

abbrev pub invariant-lets : goal.invariant-lets
invariant-lets l = l.all ≡ statement_calls (of_lets (take l.l-index l.ls))
