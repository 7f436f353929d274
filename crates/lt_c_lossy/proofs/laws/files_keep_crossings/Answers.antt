use Rattle.lt_c_lossy.proofs.PostsKept.{files_keep_crossings}
use Rattle.lt_c_lossy.proofs.laws.files_keep_crossings.Goals as goal

pub returns : goal.returns
returns c = files_keep_crossings
