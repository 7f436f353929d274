use Rattle.std.proofs.Common.{◌≡◌, drop}
use Rattle.lt_resolve.specs.Names.{if_missing, first_some}
use Rattle.lt_resolve.proofs.scope.all_among.Given as goal

abbrev pub invariant-decls : goal.invariant-decls
invariant-decls l = first_some (λ d. if_missing l.names d.name) (drop l.decl-index l.decl-items) ≡ first_some (λ d. if_missing l.names d.name) l.decl-items
