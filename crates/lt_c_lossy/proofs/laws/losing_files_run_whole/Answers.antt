use Rattle.lt_c_lossy.proofs.FilesRun.{losing_files_run_whole}
use Rattle.lt_c_lossy.proofs.laws.losing_files_run_whole.Goals as goal

pub returns : goal.returns
returns c = losing_files_run_whole
