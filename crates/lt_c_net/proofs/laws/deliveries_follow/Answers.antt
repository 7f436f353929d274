use Rattle.lt_c_net.proofs.Listed.{deliveries_follow}
use Rattle.lt_c_net.proofs.laws.deliveries_follow.Goals as goal

pub returns : goal.returns
returns g c = deliveries_follow g.C.Controller g.M.Machine
