use Rattle.lt_c_net.proofs.Shaped.{phases_stay}
use Rattle.lt_c_net.proofs.laws.phases_stay.Goals as goal

pub returns : goal.returns
returns c = phases_stay
