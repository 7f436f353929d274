use Rattle.lt_losing.proofs.Ending.{lossy_drawn-sound}
use Rattle.lt_losing.proofs.laws.admissible.Goals as goal

pub returns : goal.returns
returns c = lossy_drawn-sound
