use Rattle.lt_c_net.proofs.Answered.{deeds_agree}
use Rattle.lt_c_net.proofs.laws.deeds_agree.Goals as goal

pub returns : goal.returns
returns g c = deeds_agree g.C.Controller g.M.Machine
