use Rattle.std.proofs.Common.{refl}
use Rattle.lt_losing.proofs.Least.{least_none, least_next}
use Rattle.lt_losing.proofs.pending.first_activation.Goals as goal

pub loop-n-init : goal.loop-n-init
loop-n-init c = least_none _

pub loop-n-preserved : goal.loop-n-preserved
loop-n-preserved c = least_next _ c.loop-n.n c.loop-n.best _ c.sooner-best.result c.loop-n.invariant refl c.sooner-best.ensures
