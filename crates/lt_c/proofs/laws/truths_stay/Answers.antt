use Rattle.lt_c.proofs.Truthful.{truths_stay}
use Rattle.lt_c.proofs.laws.truths_stay.Goals as goal

pub returns : goal.returns
returns c = truths_stay
