use Rattle.lt_c_net.proofs.CountingOn.{counting_keeps}
use Rattle.lt_c_net.proofs.laws.counting_keeps.Goals as goal

pub returns : goal.returns
returns g c = counting_keeps g.C.Controller g.M.Machine
