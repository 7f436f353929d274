use Rattle.lt_timing.proofs.Folds.{folds}
use Rattle.lt_timing.proofs.laws.extremes.Goals as goal

pub returns : goal.returns
returns c = folds
