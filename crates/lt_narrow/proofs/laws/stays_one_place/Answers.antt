use Rattle.lt_narrow.proofs.Within.{one_place_within}
use Rattle.lt_narrow.proofs.laws.stays_one_place.Goals as goal

pub returns : goal.returns
returns c = one_place_within
