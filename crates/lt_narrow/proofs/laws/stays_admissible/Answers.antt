use Rattle.lt_narrow.proofs.Within.{admissible_within}
use Rattle.lt_narrow.proofs.laws.stays_admissible.Goals as goal

pub returns : goal.returns
returns c = admissible_within
