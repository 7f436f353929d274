use Rattle.lt_spaced.proofs.Few.{few}
use Rattle.lt_spaced.proofs.laws.events_are_few.Goals as goal

pub returns : goal.returns
returns c = few
