use Rattle.lt_timing.proofs.EachPair.{law}
use Rattle.lt_timing.proofs.laws.each_pair.Goals as goal

pub returns : goal.returns
returns c = law
