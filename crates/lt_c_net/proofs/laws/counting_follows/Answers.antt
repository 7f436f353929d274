use Rattle.lt_c_net.proofs.Listed.{counting_follows}
use Rattle.lt_c_net.proofs.laws.counting_follows.Goals as goal

pub returns : goal.returns
returns g c = counting_follows g.C.Controller g.M.Machine
