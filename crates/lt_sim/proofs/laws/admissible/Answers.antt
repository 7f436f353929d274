use Rattle.lt_sim.proofs.Ending.{drawn-sound}
use Rattle.lt_sim.proofs.laws.admissible.Goals as goal

pub returns : goal.returns
returns c = drawn-sound
