use Rattle.lt_c_control.proofs.Timed.{counting_is_deed}
use Rattle.lt_c_control.proofs.laws.counting_is_deed.Goals as goal

pub returns : goal.returns
returns c = counting_is_deed
