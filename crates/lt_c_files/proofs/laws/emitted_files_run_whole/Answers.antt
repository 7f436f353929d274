use Rattle.lt_c_files.proofs.Whole.{files_run_whole}
use Rattle.lt_c_files.proofs.laws.emitted_files_run_whole.Goals as goal

pub returns : goal.returns
returns c = files_run_whole c.networks_are_sound.ensures c.emitted_run_is_whole.ensures
