use Rattle.lt_c_lossy.proofs.Shown.{losing_tells}
use Rattle.lt_c_lossy.proofs.laws.losing_tells.Goals as goal

pub returns : goal.returns
returns c = losing_tells
