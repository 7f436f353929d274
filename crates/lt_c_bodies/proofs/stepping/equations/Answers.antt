use Rattle.std.proofs.Common.{codes, ◌++◌, ap, ◌∙◌}
use Rattle.lt_c.specs.Text.{spelled, statement_text}
use Rattle.lt_c_heads.specs.Words.{text_if, indent}
use Rattle.lt_c_heads.specs.Types.{has_items}
use Rattle.lt_c_bodies.specs.Equations.{told_lets}
use Rattle.lt_c_heads.proofs.Growing.{two_pieces}
use Rattle.lt_c_bodies.proofs.stepping.equations.Goals as goal

pub returns : goal.returns
returns c =
    let ls = c.args.items.now in
    two_pieces c.told_lets.result c.args.out.now (text_if (has_items ls) (codes "    /* the equations */\n")) (statement_text (spelled c.args.decls.now) indent (told_lets c.args.decls.now ls)) c.one_if.new.out c.told_lets.new.out
    (c.in_ok-one_if.ensures ∙ ap (λ b. c.args.out.now ++ text_if b (codes "    /* the equations */\n")) c.has_items.ensures) c.told_lets.ensures
