use Rattle.lt_lossy.proofs.Noted.{law-times}
use Rattle.lt_lossy.proofs.laws.times_follow.Goals as goal

pub returns : goal.returns
returns c = λ w rows s t allowed st. law-times w s t allowed rows st
