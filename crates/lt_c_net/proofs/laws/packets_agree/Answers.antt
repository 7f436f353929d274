use Rattle.lt_c_net.proofs.Packets.{packets_agree}
use Rattle.lt_c_net.proofs.laws.packets_agree.Goals as goal

pub returns : goal.returns
returns g c = packets_agree g.C.Controller g.M.Machine
