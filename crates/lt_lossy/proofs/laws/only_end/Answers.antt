use Rattle.lt_lossy.proofs.Ends.{admissible-ends}
use Rattle.lt_lossy.proofs.laws.only_end.Goals as goal

pub returns : goal.returns
returns c = admissible-ends
