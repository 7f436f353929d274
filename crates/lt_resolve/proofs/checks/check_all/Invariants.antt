use Rattle.std.proofs.Common.{◌≡◌, drop}
use Rattle.lt_resolve.specs.Faults.{first_in}
use Rattle.lt_resolve.specs.Checks.{found}
use Rattle.lt_resolve.proofs.checks.check_all.Given as goal

abbrev pub invariant-scopes : goal.invariant-scopes
invariant-scopes l = first_in (λ _. found l.check) l.i (drop l.i l.tables) ≡ first_in (λ _. found l.check) 0 l.tables
