use Rattle.lt_c_step.proofs.Shown.{shows_streams}
use Rattle.lt_c_step.proofs.laws.step_shows_streams.Goals as goal

pub returns : goal.returns
returns c = shows_streams
