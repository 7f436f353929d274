use Rattle.std.proofs.Common.{◌++◌, ◌∷◌, [], ◌∙◌}
use Rattle.lt_resolve.proofs.Located.{functions_more}
use Rattle.lt_resolve.proofs.taking.push_names.Goals as goal

pub nodes-preserved : goal.nodes-preserved
nodes-preserved c =
    c.in_ok-push.ensures.items
    ∙ (λ j. c.nodes.names.items ++ c.in_ok-copy.ensures j ∷ [])
    ∙ functions_more c.args.nodes.now c.nodes.node-index c.node-item.result c.nodes.names.items c.nodes.invariant c.nodes-test.true c.node-item.is
