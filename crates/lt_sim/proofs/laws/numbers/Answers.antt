use Rattle.lt_sim.proofs.laws.numbers.Goals as goal
use Rattle.lt_sim.proofs.Walking as walking

pub returns : goal.returns
returns c = walking.numbers
