use Rattle.std.proofs.Common.{◌≡◌, ℕ, List, map, take}
use Rattle.lt_resolve.specs.Names.{among}
use Rattle.lt_resolve.proofs.scope.table_of_lefts.Given as goal

abbrev pub invariant-eqs : goal.invariant-eqs
invariant-eqs l = (x : List ℕ) → among l.names x ≡ among (map (λ q. q.0) (take l.eq-index l.eq-items)) x
