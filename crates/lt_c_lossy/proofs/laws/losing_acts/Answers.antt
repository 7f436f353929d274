use Rattle.lt_c_lossy.proofs.Acted.{losing_acts}
use Rattle.lt_c_lossy.proofs.laws.losing_acts.Goals as goal

pub returns : goal.returns
returns c = losing_acts
