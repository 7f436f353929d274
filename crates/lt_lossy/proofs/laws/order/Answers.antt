use Rattle.lt_lossy.proofs.Balance.{law-order}
use Rattle.lt_lossy.proofs.laws.order.Goals as goal

pub returns : goal.returns
returns c = law-order
