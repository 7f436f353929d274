use Rattle.lt_c_net.proofs.Showing.{values_agree}
use Rattle.lt_c_net.proofs.laws.values_agree.Goals as goal

pub returns : goal.returns
returns g c = values_agree g.C.Controller g.M.Machine
