-- Emitted nodes show what the network shows that replays the same events.
use Rattle.std.proofs.Common.{length, sym, ◌∙◌}
use Rattle.lt_lossy.proofs.Schedules.{lossy_offence_free}
use Rattle.lt_c_lossy.specs.LosingReplays.{LosingShowsRun}
use Rattle.lt_c_lossy.proofs.Running.{lossy_run_is_whole}

pub losing_shows_run : LosingShowsRun
losing_shows_run f losses d is memory events are fabric cells horizon faithful run y n x g =
    let free = lossy_offence_free d.base.shape d.base.timing losses (length d.base.inputs) events run.admissible in
    (lossy_run_is_whole f losses d is memory events are free).fronts y n x g ∙ sym (run.fronts f is.placed is.fit faithful y n x g.0 g.1 g.2)
