use Rattle.lt_big_runs.proofs.Never.{never_refused}
use Rattle.lt_big_runs.proofs.laws.never_refused.Goals as goal

pub returns : goal.returns
returns c =
    never_refused c.networks_are_sound.ensures c.events_are_few.ensures c.program_accepted.ensures c.setup_fits.ensures c.setup_read.ensures c.inputs_read.ensures
