use Rattle.lt_c_net.proofs.Activating.{pressing_keeps}
use Rattle.lt_c_net.proofs.laws.pressing_keeps.Goals as goal

pub returns : goal.returns
returns g c = pressing_keeps g.C.Controller g.M.Machine
