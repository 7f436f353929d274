use Rattle.std.proofs.Common.{codes, ◌++◌, ◌∙◌}
use Rattle.lt_c.specs.Text.{spelled, statement_text}
use Rattle.lt_c_step.specs.Translate.{of_firsts}
use Rattle.lt_c_heads.specs.Words.{spelling, indent}
use Rattle.lt_c_heads.specs.Heads.{init_head}
use Rattle.lt_c_bodies.specs.Starts.{first_data, starting_by}
use Rattle.lt_c_heads.proofs.Growing.{four_pieces}
use Rattle.lt_c_bodies.proofs.starting.init.Goals as goal

pub returns : goal.returns
returns c =
    let f = c.args.file.now in
    four_pieces c.extend.result c.args.out.now
    (codes "\n" ++ (init_head c.args.t.now ++ codes "\n{\n")) (statement_text (spelled f.part.decls) indent (of_firsts f.part.code.keeps))
    (statement_text (spelling f) indent (starting_by f.regime (first_data f.links.senders) f.links.answerers)) (codes "}\n")
    c.opening.new.out c.firsts.new.out c.begun.new.out c.extend.new.self
    c.in_ok-opening.ensures
    (c.in_ok-firsts.ensures ∙ (λ k. c.opening.new.out ++ statement_text (spelled (c.deref.ensures k)) indent (of_firsts (c.keeps_of.ensures k))))
    c.in_ok-begun.ensures c.extend.ensures.ok
