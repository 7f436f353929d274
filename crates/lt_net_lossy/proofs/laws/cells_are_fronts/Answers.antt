use Rattle.lt_net_lossy.proofs.Fronts.{law-fronts}
use Rattle.lt_net_lossy.proofs.laws.cells_are_fronts.Goals as goal

pub returns : goal.returns
returns g c = law-fronts g.C.Controller g.M.Machine
