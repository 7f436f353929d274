use Rattle.std.proofs.Common.{◌≡◌, ◌++◌, take}
use Rattle.lt_expand.specs.Copies.{copy_decls}
use Rattle.lt_expand.proofs.paste.append_decls.Given as goal

abbrev pub invariant-loop-decl : goal.invariant-loop-decl
invariant-loop-decl l = l.decls.items ≡ l.initial.decls.items ++ copy_decls l.first l.place (take l.decl-index l.decl-items)
