use Rattle.lt_place.proofs.First.{one_first}
use Rattle.lt_place.proofs.laws.one_is_first.Goals as goal

pub returns : goal.returns
returns c = one_first
