use Rattle.std.proofs.Common.{ap, ◌∙◌}
use Rattle.toml.specs.View.{table_view}
use Rattle.lt_config.specs.Setup.{node_numbers}
use Rattle.lt_config.proofs.Pairs.{one_time}
use Rattle.lt_config.proofs.timing.node_times.Goals as goal

pub loop-node-preserved : goal.loop-node-preserved
loop-node-preserved c =
    let f = node_numbers (table_view c.args.table.now) in
    let is = c.node_time.ensures ∙ ap f c.as_str.ensures in
    rw c.in_ok-push.ensures.ok (one_time f c.args.nodes.now c.loop-node.times c.loop-node.node-index c.node-item.result c.node_time.result _ c.loop-node-test.true c.node-item.is is c.loop-node.invariant)
