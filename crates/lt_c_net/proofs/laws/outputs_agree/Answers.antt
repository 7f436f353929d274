use Rattle.lt_c_net.proofs.Showing.{outputs_agree}
use Rattle.lt_c_net.proofs.laws.outputs_agree.Goals as goal

pub returns : goal.returns
returns g c = outputs_agree g.C.Controller g.M.Machine
