use Rattle.lt_lossy.proofs.Losses.{loss-judged_in_order}
use Rattle.lt_lossy.proofs.laws.loss_in_order.Goals as goal

pub returns : goal.returns
returns c s t limit st ch at = loss-judged_in_order s t st ch at limit
