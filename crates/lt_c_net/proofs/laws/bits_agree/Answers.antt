use Rattle.lt_c_net.proofs.Listed.{bits_agree}
use Rattle.lt_c_net.proofs.laws.bits_agree.Goals as goal

pub returns : goal.returns
returns g c = bits_agree g.C.Controller g.M.Machine
