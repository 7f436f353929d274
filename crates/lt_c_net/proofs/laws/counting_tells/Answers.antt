use Rattle.lt_c_net.proofs.Telling.{counting_tells}
use Rattle.lt_c_net.proofs.laws.counting_tells.Goals as goal

pub returns : goal.returns
returns g c = counting_tells g.C.Controller g.M.Machine
