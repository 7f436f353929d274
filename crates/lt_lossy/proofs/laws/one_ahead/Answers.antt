use Rattle.lt_lossy.proofs.Balance.{law-one_ahead}
use Rattle.lt_lossy.proofs.laws.one_ahead.Goals as goal

pub returns : goal.returns
returns c = law-one_ahead
