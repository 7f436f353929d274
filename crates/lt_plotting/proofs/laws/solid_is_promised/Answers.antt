use Rattle.lt_plotting.proofs.Solid.{solid_law}
use Rattle.lt_plotting.proofs.laws.solid_is_promised.Goals as goal

pub returns : goal.returns
returns c = solid_law
