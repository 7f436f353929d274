use Rattle.std.proofs.Common.{◌≡◌, ◌++◌, take, drop, map}
use Rattle.lt_resolve.specs.Scopes.{functions}
use Rattle.lt_resolve.specs.Uses.{sites_from, all_delays}
use Rattle.lt_resolve.specs.Faults.{sites}
use Rattle.lt_resolve.proofs.uses.uses_of.Given as goal

abbrev pub invariant-scopes : goal.invariant-scopes
invariant-scopes l = record {
  calls : l.uses.calls.items ++ sites_from (functions l.tables) l.i (drop l.i l.tables) ≡ sites l.tables;
  delays : l.uses.delays.items ≡ map (λ n. all_delays n.eqs) (take l.i l.tables);
}
