use Rattle.lt_c_files.proofs.Whole.{texts_deploy}
use Rattle.lt_c_files.proofs.laws.texts_deploy.Goals as goal

pub returns : goal.returns
returns c = texts_deploy
