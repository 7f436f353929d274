use Rattle.lt_narrow.proofs.Times.{one_more}
use Rattle.lt_narrow.proofs.narrow.narrowed_times.Goals as goal

pub loop-node-preserved : goal.loop-node-preserved
loop-node-preserved c = one_more c.args.jitter c.args.timing.now c.loop-node.node c.loop-node.times _ c.narrowed_time.result c.loop-node.invariant c.narrowed_time.ensures c.in_ok-push.ensures.ok
