use Rattle.lt_c_lossy.proofs.Begun.{losing_starts}
use Rattle.lt_c_lossy.proofs.laws.losing_starts.Goals as goal

pub returns : goal.returns
returns c = losing_starts
