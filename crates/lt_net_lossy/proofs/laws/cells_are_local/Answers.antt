use Rattle.lt_net_lossy.proofs.Fronts.{law-local}
use Rattle.lt_net_lossy.proofs.laws.cells_are_local.Goals as goal

pub returns : goal.returns
returns g c = law-local g.C.Controller g.M.Machine
