use Rattle.std.proofs.Common.{◌∷◌, [], arith, length, length-append, ◌∙◌, ap}
use Rattle.lt_lead.specs.contracts.controller.NodeControllerController.TheImpl.{ghosts}
use Rattle.lt_lead.proofs.NextController.{next_controller}
use Rattle.lt_lead.proofs.controllers.controllers_of.Goals as goal

pub loop-node-preserved : goal.loop-node-preserved
loop-node-preserved c =
    let before = c.loop-node.invariant in
    record {
      count = let more = ap length c.in_ok-push.ensures.items ∙ length-append c.loop-node.controllers.items (c.of_node.result ∷ []) in let count = before.count in omega (arith, more, count);
      each = next_controller ghosts c.args.timing.now c.loop-node.controllers.items _ c.of_node.result c.loop-node.node before.count c.in_ok-push.ensures.items before.each
          c.of_node.ensures.phase c.of_node.ensures.protocol c.of_node.ensures.send c.of_node.ensures.execute;
    }
