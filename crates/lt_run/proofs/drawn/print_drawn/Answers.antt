use Rattle.std.proofs.Common.{◌≡◌, ◌∙◌, map, length, sym, ap, subst}
use Rattle.lt_base.specs.Program.{Function, GoodProgram}
use Rattle.lt_arch.specs.declared.pace.Pace.TheVariants.{Plain}
use Rattle.lt_front.specs.Checked.{CheckedText, IsChecked}
use Rattle.lt_load_fit.specs.Main.{main_in}
use Rattle.lt_evaluate.specs.Main.{written_name}
use Rattle.lt_run.specs.Drawn.{plainly}
use Rattle.lt_run.proofs.AlongList.{columns_of_list, named_list, not_named_list, not_replayed_list}
use Rattle.lt_run.proofs.drawn.print_drawn.Goals as goal

pub replay_drawn-requires-clause-placed : goal.replay_drawn-requires-clause-placed
replay_drawn-requires-clause-placed g c = (c.args.checked.now.flat, c.requires.loaded.placed, c.requires.loaded.rows_fit)

pub replay_drawn-requires-clause-paced : goal.replay_drawn-requires-clause-paced
replay_drawn-requires-clause-paced g c = (Plain, c.requires.loaded.paced)

pub returns-in_err-replayed : goal.returns-in_err-replayed
returns-in_err-replayed g c =
    not_replayed_list g.M.Machine (plainly c.args.checked.now c.args.layout.now c.args.shape.now c.args.timing.now c.args.inputs.now) _ _ _ _ _ c.from_residual.ensures.1 c.in_err-replayed.ensures

pub name_outputs-requires : goal.name_outputs-requires
name_outputs-requires g c =
    let good : GoodProgram c.args.checked.now.program = subst (λ (t : CheckedText). GoodProgram t.program) c.checked.view_is c.invariant_holds.ensures in
    let checked : IsChecked c.args.checked.now = subst IsChecked c.checked.view_is c.checked.invariant in
    let main : c.main_of.result.now ≡ main_in c.args.checked.now.program = c.main_of.ensures ∙ ap (λ (t : CheckedText). main_in t.program) c.checked.view_is in
    record {
      width = columns_of_list g.M.Machine c.args.checked.now c.args.layout.now c.args.shape.now c.args.timing.now c.args.inputs.now good checked c.requires.loaded _ _ _ c.in_ok-replayed.replayed c.in_ok-replayed.ensures
          ∙ ap (λ (f : Function). length f.outs) (sym main);
    }

pub returns : goal.returns
returns g c =
    let good : GoodProgram c.args.checked.now.program = subst (λ (t : CheckedText). GoodProgram t.program) c.checked.view_is c.invariant_holds.ensures in
    let checked : IsChecked c.args.checked.now = subst IsChecked c.checked.view_is c.checked.invariant in
    let main : c.main_of.result.now ≡ main_in c.args.checked.now.program = c.main_of.ensures ∙ ap (λ (t : CheckedText). main_in t.program) c.checked.view_is in
    let told = c.in_ok-name_outputs.ensures in
    named_list g.M.Machine c.args.checked.now c.args.layout.now c.args.shape.now c.args.timing.now c.args.inputs.now good checked c.requires.loaded _ _ _ c.in_ok-replayed.replayed c.in_ok-replayed.ensures
    c.in_ok-name_outputs.field-0 (told.names ∙ ap (λ (f : Function). map (written_name f) f.outs) main) told.cells told.horizon told.machines

pub returns-in_err-name_outputs : goal.returns-in_err-name_outputs
returns-in_err-name_outputs g c =
    not_named_list g.M.Machine (plainly c.args.checked.now c.args.layout.now c.args.shape.now c.args.timing.now c.args.inputs.now) _ _ _ c.in_ok-replayed.replayed c.in_ok-replayed.ensures _ c.from_residual-in_err-name_outputs.ensures.1
