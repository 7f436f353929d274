use Rattle.lt_lossy.proofs.Schedules.{first_lossy_offence-is}
use Rattle.lt_lossy.proofs.laws.first_of_list.Goals as goal

pub returns : goal.returns
returns c = first_lossy_offence-is
