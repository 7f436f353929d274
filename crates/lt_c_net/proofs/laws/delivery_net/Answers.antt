use Rattle.lt_c_net.proofs.Netted.{delivery_net}
use Rattle.lt_c_net.proofs.laws.delivery_net.Goals as goal

pub returns : goal.returns
returns g c = delivery_net g.C.Controller g.M.Machine
