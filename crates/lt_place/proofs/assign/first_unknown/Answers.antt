use Rattle.lt_place.proofs.Assigned.{out_later, in_node}
use Rattle.lt_place.proofs.assign.first_unknown.Goals as goal

pub returns-in-Some : goal.returns-in-Some
returns-in-Some c = λ n.
    out_later c.args.known.now n c.args.nodes.now c.loop-node.node-index c.node-item.result c.deref.result.now c.in-Some.name.now (c.loop-node.invariant n) c.loop-node-test.true c.node-item.is c.deref.ensures c.in-Some.ensures

pub loop-node-preserved : goal.loop-node-preserved
loop-node-preserved c = λ n.
    in_node c.args.known.now n c.args.nodes.now c.loop-node.node-index c.node-item.result c.deref.result.now (c.loop-node.invariant n) c.loop-node-test.true c.node-item.is c.deref.ensures c.in_default.ensures
