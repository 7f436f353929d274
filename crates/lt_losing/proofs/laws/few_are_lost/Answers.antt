use Rattle.lt_losing.specs.Losing.{lossy_drawn}
use Rattle.lt_losing.proofs.Ending.{lossy_drawn-free}
use Rattle.lt_losing.proofs.Losses.{few_losses}
use Rattle.lt_losing.proofs.laws.few_are_lost.Goals as goal

pub returns : goal.returns
returns c s t limit rows rate seed horizon ch near lt = few_losses s t limit rows ch (lossy_drawn s t limit rows rate seed horizon) lt (lossy_drawn-free s t limit rows rate seed horizon near)
