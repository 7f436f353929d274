use Rattle.lt_c_net.proofs.Listed.{pressing_follows}
use Rattle.lt_c_net.proofs.laws.pressing_follows.Goals as goal

pub returns : goal.returns
returns g c = pressing_follows g.C.Controller g.M.Machine
