use Rattle.lt_c_net.proofs.Starting.{starts_stand}
use Rattle.lt_c_net.proofs.laws.starts_stand.Goals as goal

pub returns : goal.returns
returns g c = starts_stand g.C.Controller g.M.Machine
