use Rattle.std.proofs.Common.{◌≡◌, drop}
use Rattle.lt_resolve.specs.Names.{if_among, first_some}
use Rattle.lt_resolve.specs.Scopes.{declared_names}
use Rattle.lt_resolve.proofs.scope.Scope.input_equation.Given as goal

abbrev pub invariant-eqs : goal.invariant-eqs
invariant-eqs l = first_some (λ q. if_among (declared_names l.self.ins) q.0) (drop l.eq-index l.eq-items) ≡ first_some (λ q. if_among (declared_names l.self.ins) q.0) l.eq-items
