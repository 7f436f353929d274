use Rattle.std.proofs.Common.{◌≡◌, IfOk, sym, subst, ◌∙◌}
use Rattle.lt_base.specs.Meaning.{ClockPairs}
use Rattle.lt_c_heads.proofs.Typing.{clock_there, clock_past}
use Rattle.lt_c_node.proofs.part.clock_of.Goals as goal

pub returns-then-x-decls : goal.returns-then-x-decls
returns-then-x-decls c =
    subst (λ (ck : ClockPairs). IfOk c.copy.result (λ clock. clock ≡ ck)) (sym (clock_there c.args.decls.now c.args.x c.index-decls-x.result c.if-x-decls.true)) c.copy.ensures

pub returns-else-x-decls : goal.returns-else-x-decls
returns-else-x-decls c = c.base.ensures ∙ sym (clock_past c.args.decls.now c.args.x c.if-x-decls.false)
