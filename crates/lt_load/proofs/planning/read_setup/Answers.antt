use Rattle.lt_answer.proofs.Stages.{settles, runs_short_by}
use Rattle.lt_load.proofs.planning.read_setup.Goals as goal

pub returns-in_err-plain-in-None : goal.returns-in_err-plain-in-None
returns-in_err-plain-in-None g c = runs_short_by _ _ c.from_residual.ensures.1

pub returns-in_ok-plain-in-None : goal.returns-in_ok-plain-in-None
returns-in_ok-plain-in-None g c = rw c.in-None.is (settles _ c.in_ok-plain-in-None.field-0 c.in_ok-plain-in-None.ensures)
