use Rattle.lt_narrow.proofs.Within.{reached_same}
use Rattle.lt_narrow.proofs.laws.reaches_same.Goals as goal

pub returns : goal.returns
returns c = reached_same
