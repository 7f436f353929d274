use Rattle.lt_c_files.proofs.Coded.{files_are_nodes}
use Rattle.lt_c_files.proofs.laws.files_are_nodes.Goals as goal

pub returns : goal.returns
returns c = files_are_nodes
