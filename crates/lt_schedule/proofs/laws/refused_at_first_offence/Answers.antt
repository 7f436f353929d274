use Rattle.lt_schedule.proofs.Settling.{settles_rows}
use Rattle.lt_schedule.proofs.laws.refused_at_first_offence.Goals as goal

pub returns : goal.returns
returns c = settles_rows
