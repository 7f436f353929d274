use Rattle.lt_c_lossy.proofs.Handed.{numbers_handed_out}
use Rattle.lt_c_lossy.proofs.laws.numbers_handed_out.Goals as goal

pub returns : goal.returns
returns c = numbers_handed_out
