use Rattle.lt_scheduling.proofs.AsSim.{as_sim}
use Rattle.lt_scheduling.proofs.laws.draws_as_sim.Goals as goal

pub returns : goal.returns
returns c = as_sim
