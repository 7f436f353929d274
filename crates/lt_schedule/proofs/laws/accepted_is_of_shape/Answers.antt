use Rattle.lt_schedule.proofs.Settling.{accepted_reads}
use Rattle.lt_schedule.proofs.Placing.{all_of_shape, up_to}
use Rattle.lt_schedule.proofs.laws.accepted_is_of_shape.Goals as goal

pub returns : goal.returns
returns c s t rows end left events ok =
    let reads = accepted_reads s t rows end left events ok in
    let all = all_of_shape s reads.later events reads.events_read in
    (all, up_to s events all)
