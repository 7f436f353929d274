use Rattle.lt_c_net.proofs.Netted.{counting_net}
use Rattle.lt_c_net.proofs.laws.counting_net.Goals as goal

pub returns : goal.returns
returns g c = counting_net g.C.Controller g.M.Machine
