use Rattle.lt_net_lossy.proofs.Keeps.{law-events_keep}
use Rattle.lt_net_lossy.proofs.laws.events_keep.Goals as goal

pub returns : goal.returns
returns g c = law-events_keep g.C.Controller g.M.Machine
