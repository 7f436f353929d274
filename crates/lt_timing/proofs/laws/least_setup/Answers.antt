use Rattle.lt_timing.proofs.LeastSetup.{law}
use Rattle.lt_timing.proofs.laws.least_setup.Goals as goal

pub returns : goal.returns
returns c = law
