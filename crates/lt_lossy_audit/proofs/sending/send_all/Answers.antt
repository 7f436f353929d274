use Rattle.lt_lossy_audit.proofs.SentSeen.{seen_none}
use Rattle.lt_lossy_audit.proofs.sending.send_all.Goals as goal

pub loop-c-init : goal.loop-c-init
loop-c-init g c = seen_none c.args.shape.now c.args.node c.args.seen.now c.args.at c.args.links.now.items c.args.watch.now
