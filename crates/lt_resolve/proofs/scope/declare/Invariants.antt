use Rattle.std.proofs.Common.{◌≡◌, ◌++◌, drop, take}
use Rattle.lt_resolve.specs.Names.{repeated_name}
use Rattle.lt_resolve.specs.Scopes.{declared_names}
use Rattle.lt_resolve.proofs.scope.declare.Given as goal

abbrev pub invariant-decls : goal.invariant-decls
invariant-decls l = record {
  names : l.names ≡ l.initial.names ++ declared_names (take l.decl-index l.decl-items);
  rest : repeated_name l.names (declared_names (drop l.decl-index l.decl-items)) ≡ repeated_name l.initial.names (declared_names l.decl-items);
}
