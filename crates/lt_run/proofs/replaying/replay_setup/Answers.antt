use Rattle.std.proofs.Common.{◌≡◌, ◌∙◌, map, length, sym, ap, subst}
use Rattle.lt_base.specs.Program.{Function, GoodProgram}
use Rattle.lt_front.specs.Checked.{CheckedText, IsChecked}
use Rattle.lt_load_fit.specs.Main.{main_in}
use Rattle.lt_load.specs.Plan.{LoadedPlan}
use Rattle.lt_evaluate.specs.Main.{written_name}
use Rattle.lt_run.proofs.Replays.{has_columns, named, not_named, not_replayed, shows_too}
use Rattle.lt_run.proofs.replaying.replay_setup.Goals as goal

pub returns-in_err-replayed : goal.returns-in_err-replayed
returns-in_err-replayed g c =
    let k : LoadedPlan = record { checked = c.args.checked.now; layout = c.args.setup.layout; shape = c.args.setup.shape; timing = c.args.setup.timing; inputs = c.args.inputs.now; pace = c.args.pace } in
    not_replayed _ k _ _ _ _ _ _ _ c.from_residual.ensures.1 c.in_err-replayed.ensures

pub name_outputs-requires : goal.name_outputs-requires
name_outputs-requires g c =
    let k : LoadedPlan = record { checked = c.args.checked.now; layout = c.args.setup.layout; shape = c.args.setup.shape; timing = c.args.setup.timing; inputs = c.args.inputs.now; pace = c.args.pace } in
    let good : GoodProgram k.checked.program = subst (λ (t : CheckedText). GoodProgram t.program) c.checked.view_is c.invariant_holds.ensures in
    let checked : IsChecked k.checked = subst IsChecked c.checked.view_is c.checked.invariant in
    let main : c.main_of.result.now ≡ main_in k.checked.program = c.main_of.ensures ∙ ap (λ (t : CheckedText). main_in t.program) c.checked.view_is in
    record { width = has_columns _ k good checked c.requires.loaded _ c.in_ok-replayed.replayed c.in_ok-replayed.ensures.ended ∙ ap (λ (f : Function). length f.outs) (sym main) }

pub returns : goal.returns
returns g c =
    let k : LoadedPlan = record { checked = c.args.checked.now; layout = c.args.setup.layout; shape = c.args.setup.shape; timing = c.args.setup.timing; inputs = c.args.inputs.now; pace = c.args.pace } in
    let good : GoodProgram k.checked.program = subst (λ (t : CheckedText). GoodProgram t.program) c.checked.view_is c.invariant_holds.ensures in
    let checked : IsChecked k.checked = subst IsChecked c.checked.view_is c.checked.invariant in
    let main : c.main_of.result.now ≡ main_in k.checked.program = c.main_of.ensures ∙ ap (λ (t : CheckedText). main_in t.program) c.checked.view_is in
    let names = c.in_ok-name_outputs.ensures.names ∙ ap (λ (f : Function). map (written_name f) f.outs) main in
    let told = c.in_ok-name_outputs.ensures in
    named _ k _ _ _ _ _ c.in_ok-replayed.replayed c.in_ok-name_outputs.field-0
    (shows_too _ k good checked c.requires.loaded _ c.in_ok-replayed.replayed c.in_ok-name_outputs.field-0 names told.cells told.horizon told.machines) told.layout c.in_ok-replayed.ensures

pub returns-in_err-name_outputs : goal.returns-in_err-name_outputs
returns-in_err-name_outputs g c =
    let k : LoadedPlan = record { checked = c.args.checked.now; layout = c.args.setup.layout; shape = c.args.setup.shape; timing = c.args.setup.timing; inputs = c.args.inputs.now; pace = c.args.pace } in
    not_named _ k _ _ _ _ _ c.in_ok-replayed.replayed _ c.from_residual-in_err-name_outputs.ensures.1 c.in_ok-replayed.ensures
