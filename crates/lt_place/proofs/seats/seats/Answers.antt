use Rattle.std.proofs.Common.{take}
use Rattle.lt_place.specs.Nodes.{listings_from}
use Rattle.lt_place.proofs.Listed.{node_step}
use Rattle.lt_place.proofs.seats.seats.Goals as goal

pub loop-n-preserved : goal.loop-n-preserved
loop-n-preserved c =
    node_step c.put_list.new.seats c.args.nodes.now c.loop-n.n c.index-nodes-n.result c.deref.result.now c.loop-n-test.true c.index-nodes-n.is c.deref.ensures (c.in_ok-put_list.ensures (listings_from 0 (take c.loop-n.n c.args.nodes.now)) c.loop-n.invariant)
