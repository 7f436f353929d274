use Rattle.std.specs.Prelude.{option_map}
use Rattle.lt_inspect.proofs.Plain.{no_scene, with_scene}
use Rattle.lt_inspect.proofs.loading.load_scene.Goals as goal

pub returns-in_err-stage : goal.returns-in_err-stage
returns-in_err-stage g c = no_scene c.args.program.now c.args.inputs.now c.args.config.now (option_map (λ s. s.now) c.args.node) _ _ _ _ c.from_residual.ensures.1 c.in_err-stage.ensures

pub returns : goal.returns
returns g c =
    with_scene c.in_ok-stage.stage c.into_scene.result c.into_scene.ensures.shape c.into_scene.ensures.timing c.into_scene.ensures.node c.into_scene.ensures.rows
    c.args.program.now c.args.inputs.now c.args.config.now (option_map (λ s. s.now) c.args.node) _ _ c.in_ok-stage.ensures
