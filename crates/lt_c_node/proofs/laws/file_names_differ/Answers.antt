use Rattle.lt_c_node.proofs.Naming.{names_differ}
use Rattle.lt_c_node.proofs.laws.file_names_differ.Goals as goal

pub returns : goal.returns
returns c = names_differ
