use Rattle.lt_c_control.proofs.LossyDeeds.{losing_is_deed}
use Rattle.lt_c_control.proofs.laws.losing_is_deed.Goals as goal

pub returns : goal.returns
returns c = losing_is_deed
