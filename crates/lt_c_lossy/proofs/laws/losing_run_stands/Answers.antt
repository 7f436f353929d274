use Rattle.lt_c_lossy.proofs.Running.{losing_run_stands}
use Rattle.lt_c_lossy.proofs.laws.losing_run_stands.Goals as goal

pub returns : goal.returns
returns c = losing_run_stands
