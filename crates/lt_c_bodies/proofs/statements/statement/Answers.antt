use Rattle.std.proofs.Common.{◌≡◌, ◌++◌, ℕ, List, OnOk, subst}
use Rattle.lt_base.specs.declared.function.Decl.{Decl}
use Rattle.lt_c.specs.Tree.{nothing}
use Rattle.lt_c.specs.Text.{statement_text}
use Rattle.lt_c.specs.Spelled.{spelled_in}
use Rattle.lt_c.specs.Views.{statement_of}
use Rattle.lt_c_heads.specs.Words.{indent}
use Rattle.lt_c_bodies.proofs.statements.statement.Goals as goal

pub returns : goal.returns
returns c =
    let s = statement_of nothing c.args.s.now in
    subst (λ (ns : List (List ℕ)). OnOk c.action.result (c.action.new.out ≡ c.args.out.now ++ statement_text (spelled_in c.args.file.now.part.decls c.args.file.now.part.decls ns) indent s)) c.deref-names.ensures
    (subst (λ (ds : List Decl). OnOk c.action.result (c.action.new.out ≡ c.args.out.now ++ statement_text (spelled_in ds ds c.deref-names.result.now) indent s)) c.deref-decls.ensures c.action.ensures)
