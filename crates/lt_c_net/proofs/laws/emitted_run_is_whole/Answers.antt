use Rattle.lt_c_net.proofs.TiedRuns.{run_is_whole}
use Rattle.lt_c_net.proofs.laws.emitted_run_is_whole.Goals as goal

pub returns : goal.returns
returns c = run_is_whole c.networks_are_sound.ensures
