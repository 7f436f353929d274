use Rattle.lt_net_lossy.proofs.Fronts.{law-own}
use Rattle.lt_net_lossy.proofs.laws.events_keep_own.Goals as goal

pub returns : goal.returns
returns g c = law-own g.C.Controller g.M.Machine
