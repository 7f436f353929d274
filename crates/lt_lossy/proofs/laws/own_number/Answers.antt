use Rattle.lt_lossy.proofs.Balance.{law-own_number}
use Rattle.lt_lossy.proofs.laws.own_number.Goals as goal

pub returns : goal.returns
returns c = law-own_number
