use Rattle.lt_c_files.proofs.Printed.{files_print_trees}
use Rattle.lt_c_files.proofs.laws.files_print_trees.Goals as goal

pub returns : goal.returns
returns c = files_print_trees
