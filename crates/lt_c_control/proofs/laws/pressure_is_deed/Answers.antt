use Rattle.lt_c_control.proofs.Pressing.{pressure_is_deed}
use Rattle.lt_c_control.proofs.laws.pressure_is_deed.Goals as goal

pub returns : goal.returns
returns c = pressure_is_deed
