use Rattle.std.proofs.Common.{◌≡◌, ◌∙◌, ◌≤◌, length, ap, sym, subst}
use Rattle.lt_rows.specs.Limits.{most_events}
use Rattle.lt_load.specs.Plan.{LoadedPlan}
use Rattle.lt_run.specs.Drawn.{plainly}
use Rattle.lt_run.proofs.AlongList.{nothing_taken, fails_too, outputs_of_list, run_at, loaded_plainly, list_for}
use Rattle.lt_run.proofs.Replays.{ready_at}
use Rattle.lt_run.proofs.drawn.run_drawn.Goals as goal

pub returns-in_err-machines : goal.returns-in_err-machines
returns-in_err-machines g c = nothing_taken _ _ _ c.from_residual.ensures.1

pub print_drawn-requires-clause-loaded : goal.print_drawn-requires-clause-loaded
print_drawn-requires-clause-loaded g c =
    let k : LoadedPlan = record { checked = c.loaded.inside.checked; layout = c.loaded.inside.layout; shape = c.loaded.inside.shape; timing = c.loaded.inside.timing; inputs = c.loaded.inside.inputs; pace = c.loaded.inside.pace } in
    loaded_plainly k (ap (λ (q : LoadedPlan). q.pace) c.loaded.view_is ∙ c.requires.plain) c.loaded.invariant

pub print_drawn-requires-clause-few : goal.print_drawn-requires-clause-few
print_drawn-requires-clause-few g c = subst (λ (q : LoadedPlan). length (list_for c.args.seed c.args.horizon q) ≤ most_events) (sym c.loaded.view_is) c.requires.few

pub print_drawn-requires-clause-machines : goal.print_drawn-requires-clause-machines
print_drawn-requires-clause-machines g c =
    let k : LoadedPlan = record { checked = c.loaded.inside.checked; layout = c.loaded.inside.layout; shape = c.loaded.inside.shape; timing = c.loaded.inside.timing; inputs = c.loaded.inside.inputs; pace = c.loaded.inside.pace } in
    ready_at _ c.args.loaded.now k (sym c.loaded.view_is) _ c.in_ok-machines.ensures

pub returns-in_err-printed : goal.returns-in_err-printed
returns-in_err-printed g c =
    let k : LoadedPlan = record { checked = c.loaded.inside.checked; layout = c.loaded.inside.layout; shape = c.loaded.inside.shape; timing = c.loaded.inside.timing; inputs = c.loaded.inside.inputs; pace = c.loaded.inside.pace } in
    run_at k c.args.loaded.now c.loaded.view_is c.args.seed c.args.horizon _ _ _ (fails_too _ _ _ _ _ _ c.from_residual-in_err-printed.ensures.1 c.in_err-printed.ensures)

pub returns : goal.returns
returns g c =
    let k : LoadedPlan = record { checked = c.loaded.inside.checked; layout = c.loaded.inside.layout; shape = c.loaded.inside.shape; timing = c.loaded.inside.timing; inputs = c.loaded.inside.inputs; pace = c.loaded.inside.pace } in
    run_at k c.args.loaded.now c.loaded.view_is c.args.seed c.args.horizon _ _ _
    (outputs_of_list (plainly k.checked k.layout k.shape k.timing k.inputs) (list_for c.args.seed c.args.horizon k) _ _ c.in_ok-printed.printed c.outputs.result c.outputs.ensures.names c.outputs.ensures.cells c.in_ok-printed.ensures)
