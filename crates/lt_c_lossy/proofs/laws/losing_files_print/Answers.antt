use Rattle.lt_c_lossy.proofs.FilesPrinted.{losing_files_print}
use Rattle.lt_c_lossy.proofs.laws.losing_files_print.Goals as goal

pub returns : goal.returns
returns c = losing_files_print
