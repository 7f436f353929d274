use Rattle.lt_big_ends.proofs.Well.{ends_well}
use Rattle.lt_big_ends.proofs.laws.big_ends_well.Goals as goal

pub returns : goal.returns
returns c = ends_well c.never_refused.ensures
