use Rattle.std.proofs.Common.{◌≡◌, IfOk, ℕ, List, sym, subst}
use Rattle.lt_c.proofs.Names.{name_there, name_past}
use Rattle.lt_c_node.proofs.linking.name_of.Goals as goal

pub returns-then-x-decls : goal.returns-then-x-decls
returns-then-x-decls c =
    subst (λ (n : List ℕ). IfOk c.copy.result (λ name. name ≡ n)) (sym (name_there c.args.decls.now c.args.x c.index-decls-x.result c.if-x-decls.true)) c.copy.ensures

pub returns-else-x-decls : goal.returns-else-x-decls
returns-else-x-decls c =
    subst (λ (n : List ℕ). IfOk c.from_str.result (λ name. name ≡ n)) (sym (name_past c.args.decls.now c.args.x c.if-x-decls.false)) c.from_str.ensures
