use Rattle.std.proofs.Common.{◌++◌, ap, ◌∙◌}
use Rattle.lt_c.specs.Spelled.{node_at}
use Rattle.lt_c_bodies.specs.Variables.{answers_text}
use Rattle.lt_c_heads.proofs.Growing.{grows_there}
use Rattle.lt_c_bodies.proofs.keeping.answers_of.Goals as goal

pub nodes-preserved : goal.nodes-preserved
nodes-preserved c =
    grows_there (λ j. answers_text c.args.regime (node_at c.args.names.now j)) c.args.out.now c.nodes.out c.answers.new.out c.args.answerers.now c.nodes.j-index 0 c.nodes-test.true c.nodes.invariant
    (c.in_ok-answers.ensures ∙ ap (λ z. c.nodes.out ++ answers_text c.args.regime z) c.node_name.ensures)
