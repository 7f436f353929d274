use Rattle.lt_losing.proofs.Losses.{nothing_lost}
use Rattle.lt_losing.proofs.laws.nothing_is_lost.Goals as goal

pub returns : goal.returns
returns c = nothing_lost
