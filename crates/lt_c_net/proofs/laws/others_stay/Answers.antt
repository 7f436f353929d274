use Rattle.lt_c_net.proofs.Others.{others_stay}
use Rattle.lt_c_net.proofs.laws.others_stay.Goals as goal

pub returns : goal.returns
returns g c = others_stay g.C.Controller g.M.Machine
