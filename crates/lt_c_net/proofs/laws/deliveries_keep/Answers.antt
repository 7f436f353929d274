use Rattle.lt_c_net.proofs.Taking.{deliveries_keep}
use Rattle.lt_c_net.proofs.laws.deliveries_keep.Goals as goal

pub returns : goal.returns
returns g c = deliveries_keep g.C.Controller g.M.Machine
