use Rattle.std.proofs.Common.{◌≡◌, ◌++◌, List, take, drop}
use Rattle.lt_syntax.specs.declared.tree.DeclText.{DeclText}
use Rattle.lt_resolve.specs.Names.{first_some}
use Rattle.lt_resolve.specs.Faults.{unknown_clock}
use Rattle.lt_resolve.specs.Named.{IsDeclared, Along}
use Rattle.lt_resolve.proofs.function.declare.Given as goal

abbrev pub invariant-decls : goal.invariant-decls
invariant-decls l = record {
  rest : first_some (λ d. unknown_clock l.variables d.clock) (drop l.decl-index l.decl-items) ≡ first_some (λ d. unknown_clock l.variables d.clock) l.decl-items;
  along : (before : List DeclText) → Along (IsDeclared l.variables) before l.initial.out.items → Along (IsDeclared l.variables) (before ++ take l.decl-index l.decl-items) l.out.items;
}
