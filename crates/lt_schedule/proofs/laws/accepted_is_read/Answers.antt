use Rattle.lt_schedule.proofs.Settling.{accepted_reads}
use Rattle.lt_schedule.proofs.laws.accepted_is_read.Goals as goal

pub returns : goal.returns
returns c = accepted_reads
