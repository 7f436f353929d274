use Rattle.lt_lossy.proofs.Pace.{law}
use Rattle.lt_lossy.proofs.laws.least_length.Goals as goal

pub returns : goal.returns
returns c = law
