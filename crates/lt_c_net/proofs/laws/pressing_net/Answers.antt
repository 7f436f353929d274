use Rattle.lt_c_net.proofs.Netted.{pressing_net}
use Rattle.lt_c_net.proofs.laws.pressing_net.Goals as goal

pub returns : goal.returns
returns g c = pressing_net g.C.Controller g.M.Machine
