use Rattle.std.proofs.Common.{codes, ◌++◌, ap, ◌∙◌}
use Rattle.lt_c.specs.Text.{spelled, statement_text}
use Rattle.lt_c_step.specs.Translate.{of_keeps}
use Rattle.lt_c_heads.specs.Words.{text_if, indent}
use Rattle.lt_c_heads.specs.Types.{has_items}
use Rattle.lt_c_heads.proofs.Growing.{two_pieces}
use Rattle.lt_c_bodies.proofs.stepping.kept.Goals as goal

pub returns : goal.returns
returns c =
    let ls = c.args.items.now in
    two_pieces c.keeps.result c.args.out.now (text_if (has_items ls) (codes "    /* what delays keep */\n")) (statement_text (spelled c.args.decls.now) indent (of_keeps ls)) c.one_if.new.out c.keeps.new.out
    (c.in_ok-one_if.ensures ∙ ap (λ b. c.args.out.now ++ text_if b (codes "    /* what delays keep */\n")) c.has_items.ensures) c.keeps.ensures
