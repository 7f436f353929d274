use Rattle.std.proofs.Common.{◌≡◌, ◌∙◌, length, sym, subst}
use Rattle.lt_net_bench.specs.Starts.{AreReady}
use Rattle.lt_load.specs.Plan.{LoadedPlan, IsLoaded}
use Rattle.lt_run.proofs.Replays.{not_set_up, prints_at, setup_in, with_setup}
use Rattle.lt_run.proofs.replaying.replay.Goals as goal

pub returns-in_err-setup : goal.returns-in_err-setup
returns-in_err-setup g c = not_set_up _ c.args.loaded.now c.args.schedule.now _ _ _ c.from_residual.ensures.1

pub replay_setup-requires-clause-loaded : goal.replay_setup-requires-clause-loaded
replay_setup-requires-clause-loaded g c =
    let k : LoadedPlan = record { checked = c.loaded.inside.checked; layout = c.loaded.inside.layout; shape = c.loaded.inside.shape; timing = c.loaded.inside.timing; inputs = c.loaded.inside.inputs; pace = c.loaded.inside.pace } in
    let copy = c.in_ok-setup.ensures in
    let is : c.in_ok-setup.setup ≡ setup_in k = λ i. record { layout = copy.layout i; shape = copy.shape i; timing = copy.timing i } in
    subst IsLoaded (sym (with_setup k c.in_ok-setup.setup is)) c.loaded.invariant

pub replay_setup-requires-clause-machines : goal.replay_setup-requires-clause-machines
replay_setup-requires-clause-machines g c =
    let k : LoadedPlan = record { checked = c.loaded.inside.checked; layout = c.loaded.inside.layout; shape = c.loaded.inside.shape; timing = c.loaded.inside.timing; inputs = c.loaded.inside.inputs; pace = c.loaded.inside.pace } in
    let copy = c.in_ok-setup.ensures in
    let is : c.in_ok-setup.setup ≡ setup_in k = λ i. record { layout = copy.layout i; shape = copy.shape i; timing = copy.timing i } in
    subst (λ (q : LoadedPlan). AreReady g.M.Machine q.layout (length q.inputs.rows) c.args.machines.items) (sym (with_setup k c.in_ok-setup.setup is ∙ c.loaded.view_is)) c.requires.machines

pub returns : goal.returns
returns g c =
    let k : LoadedPlan = record { checked = c.loaded.inside.checked; layout = c.loaded.inside.layout; shape = c.loaded.inside.shape; timing = c.loaded.inside.timing; inputs = c.loaded.inside.inputs; pace = c.loaded.inside.pace } in
    let copy = c.in_ok-setup.ensures in
    let is : c.in_ok-setup.setup ≡ setup_in k = λ i. record { layout = copy.layout i; shape = copy.shape i; timing = copy.timing i } in
    prints_at _ _ c.args.loaded.now (with_setup k c.in_ok-setup.setup is ∙ c.loaded.view_is) _ _ _ _ _ _ c.replay_setup.ensures
