use Rattle.std.proofs.Common.{◌≡◌, map, drop}
use Rattle.lt_resolve.specs.Names.{repeated_name}
use Rattle.lt_resolve.proofs.scope.insert_lefts.Given as goal

abbrev pub invariant-eqs : goal.invariant-eqs
invariant-eqs l = repeated_name l.names (map (λ q. q.0) (drop l.eq-index l.eq-items)) ≡ repeated_name l.initial.names (map (λ q. q.0) l.eq-items)
