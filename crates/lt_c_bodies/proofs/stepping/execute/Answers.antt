use Rattle.std.proofs.Common.{codes, ◌++◌, ◌∙◌}
use Rattle.lt_c.specs.Text.{spelled, statement_text}
use Rattle.lt_c_step.specs.Translate.{of_keeps}
use Rattle.lt_c_step.specs.Part.{feeding, showing}
use Rattle.lt_c_heads.specs.Words.{text_if, spelling, indent}
use Rattle.lt_c_heads.specs.Types.{has_items}
use Rattle.lt_c_bodies.specs.Equations.{told_lets}
use Rattle.lt_c_heads.proofs.Growing.{six_pieces}
use Rattle.lt_c_bodies.proofs.stepping.execute.Goals as goal

pub returns : goal.returns
returns c =
    let f = c.args.file.now in
    six_pieces c.extend-2.result c.args.out.now
    (codes "\n/* Executes the next instant. */\nstatic void execute(void)\n{\n")
    (text_if (has_items f.part.sources) (codes "    /* what the instant is fed with */\n") ++ statement_text (spelling f) indent (feeding 0 f.part.sources))
    (text_if (has_items f.part.code.lets) (codes "    /* the equations */\n") ++ statement_text (spelled f.part.decls) indent (told_lets f.part.decls f.part.code.lets))
    (text_if (has_items f.part.outputs) (codes "    /* the outputs */\n") ++ statement_text (spelling f) indent (showing f.part.outputs))
    (text_if (has_items f.part.code.keeps) (codes "    /* what delays keep */\n") ++ statement_text (spelled f.part.decls) indent (of_keeps f.part.code.keeps))
    (codes "}\n")
    c.extend.new.self c.fed.new.out c.equations.new.out c.shown.new.out c.kept.new.out c.extend-2.new.self
    c.in_ok-extend.ensures.ok c.in_ok-fed.ensures
    (c.in_ok-equations.ensures
    ∙ (λ k. c.fed.new.out ++ (text_if (has_items (c.lets_of.ensures k)) (codes "    /* the equations */\n") ++ statement_text (spelled (c.deref.ensures k)) indent (told_lets (c.deref.ensures k) (c.lets_of.ensures k)))))
    c.in_ok-shown.ensures
    (c.in_ok-kept.ensures
    ∙ (λ k. c.shown.new.out ++ (text_if (has_items (c.keeps_of.ensures k)) (codes "    /* what delays keep */\n") ++ statement_text (spelled (c.deref-2.ensures k)) indent (of_keeps (c.keeps_of.ensures k)))))
    c.extend-2.ensures.ok
