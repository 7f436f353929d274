use Rattle.lt_c_net.proofs.Telling.{pressing_tells}
use Rattle.lt_c_net.proofs.laws.pressing_tells.Goals as goal

pub returns : goal.returns
returns g c = pressing_tells g.C.Controller g.M.Machine
