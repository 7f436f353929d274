use Rattle.lt_c_control.proofs.Started.{starts_fresh}
use Rattle.lt_c_control.proofs.laws.starts_fresh.Goals as goal

pub returns : goal.returns
returns c = starts_fresh
