use Rattle.lt_timing.proofs.SameBounds.{law}
use Rattle.lt_timing.proofs.laws.least_of_setups.Goals as goal

pub returns : goal.returns
returns c = law
