use Rattle.std.proofs.Common.{ap, refl}
use Rattle.std.specs.Prelude.{option_map}
use Rattle.lt_front.specs.Checked.{CheckedText, examined_part}
use Rattle.lt_load.specs.Errands.{inputs_errand}
use Rattle.lt_load.proofs.Equals.{inputs_at}
use Rattle.lt_inspect.proofs.Staging.{no_ground, no_rows, with_stage}
use Rattle.lt_inspect.proofs.loading.load_placed.Goals as goal

pub returns-in_err-ground : goal.returns-in_err-ground
returns-in_err-ground g c =
    no_ground (examined_part c.args.checked.now) c.args.setup (option_map (λ s. s.now) c.args.node) c.args.inputs.now _ (inputs_errand c.args.inputs.now) _ _ c.from_residual.ensures.1 c.in_err-ground.ensures

pub returns-in-Err : goal.returns-in-Err
returns-in-Err g c =
    no_rows (examined_part c.args.checked.now) c.args.setup (option_map (λ s. s.now) c.args.node) c.args.inputs.now _ c.in_ok-ground.ground c.in_ok-ground.ensures _ _ _ refl
    (inputs_at _ _ (ap (λ (t : CheckedText). t.program) c.checked.view_is) _ _ _ _ c.in-Err.ensures.answered)

pub returns-in-Ok : goal.returns-in-Ok
returns-in-Ok g c =
    with_stage (examined_part c.args.checked.now) c.args.setup (option_map (λ s. s.now) c.args.node) c.args.inputs.now _ c.in_ok-ground.ground c.in_ok-ground.ensures _ c.in-Ok.table _
    refl c.rows.ensures (inputs_at _ _ (ap (λ (t : CheckedText). t.program) c.checked.view_is) _ _ _ _ c.in-Ok.ensures.answered)
