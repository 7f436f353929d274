use Rattle.lt_losing.proofs.Measure.{drawn_most}
use Rattle.lt_losing.proofs.laws.never_cut.Goals as goal

pub returns : goal.returns
returns c = drawn_most
