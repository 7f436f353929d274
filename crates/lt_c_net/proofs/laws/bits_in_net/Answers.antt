use Rattle.lt_c_net.proofs.Answered.{bits_in_net}
use Rattle.lt_c_net.proofs.laws.bits_in_net.Goals as goal

pub returns : goal.returns
returns g c = bits_in_net g.C.Controller g.M.Machine
