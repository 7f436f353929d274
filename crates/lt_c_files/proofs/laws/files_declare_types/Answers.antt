use Rattle.lt_c_files.proofs.Declared.{files_declare_types}
use Rattle.lt_c_files.proofs.laws.files_declare_types.Goals as goal

pub returns : goal.returns
returns c = files_declare_types
