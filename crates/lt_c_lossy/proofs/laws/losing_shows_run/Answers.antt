use Rattle.lt_c_lossy.proofs.Replayed.{losing_shows_run}
use Rattle.lt_c_lossy.proofs.laws.losing_shows_run.Goals as goal

pub returns : goal.returns
returns c = losing_shows_run
