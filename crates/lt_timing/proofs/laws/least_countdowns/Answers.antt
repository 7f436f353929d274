use Rattle.lt_timing.proofs.LeastRight.{law}
use Rattle.lt_timing.proofs.laws.least_countdowns.Goals as goal

pub returns : goal.returns
returns c = law
