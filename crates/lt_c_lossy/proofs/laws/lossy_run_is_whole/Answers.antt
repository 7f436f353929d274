use Rattle.lt_c_lossy.proofs.Running.{lossy_run_is_whole}
use Rattle.lt_c_lossy.proofs.laws.lossy_run_is_whole.Goals as goal

pub returns : goal.returns
returns c = lossy_run_is_whole
