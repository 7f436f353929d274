use Rattle.lt_c_lossy.proofs.Brought.{losing_delivers}
use Rattle.lt_c_lossy.proofs.laws.losing_delivers.Goals as goal

pub returns : goal.returns
returns c = losing_delivers
