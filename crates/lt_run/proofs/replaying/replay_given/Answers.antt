use Rattle.std.proofs.Common.{sym}
use Rattle.lt_load.specs.Plan.{LoadedPlan}
use Rattle.lt_run.proofs.Replays.{prints_at, ready_at}
use Rattle.lt_run.proofs.replaying.replay_given.Goals as goal

pub replay_setup-printed-requires-clause-machines : goal.replay_setup-printed-requires-clause-machines
replay_setup-printed-requires-clause-machines g c = ready_at _ _ _ (sym c.loaded.view_is) c.args.machines.items c.requires.machines

pub returns : goal.returns
returns g c =
    let k : LoadedPlan = record { checked = c.loaded.inside.checked; layout = c.loaded.inside.layout; shape = c.loaded.inside.shape; timing = c.loaded.inside.timing; inputs = c.loaded.inside.inputs; pace = c.loaded.inside.pace } in
    prints_at _ k c.args.loaded c.loaded.view_is _ _ _ _ _ _ c.replay_setup-printed.ensures
