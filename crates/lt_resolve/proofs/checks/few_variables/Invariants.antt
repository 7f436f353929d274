use Rattle.std.proofs.Common.{◌≡◌, drop}
use Rattle.lt_resolve.specs.Faults.{first_in}
use Rattle.lt_resolve.specs.Checks.{variables_limit}
use Rattle.lt_resolve.proofs.checks.few_variables.Given as goal

abbrev pub invariant-scopes : goal.invariant-scopes
invariant-scopes l = first_in (λ _. variables_limit) l.i (drop l.i l.tables) ≡ first_in (λ _. variables_limit) 0 l.tables
