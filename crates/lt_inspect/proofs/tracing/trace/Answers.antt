use Rattle.std.proofs.Common.{◌∙◌}
use Rattle.lt_answer.specs.Alone.{given_word}
use Rattle.lt_load.proofs.Elsewhere.{answered_near, near_error, near_names}
use Rattle.lt_load.proofs.Steps.{counts_on}
use Rattle.lt_inspect.specs.Scenes.{scene_verdict}
use Rattle.lt_inspect.specs.Inspected.{IsTraced, ordered_trace_verdict}
use Rattle.lt_inspect.proofs.Elsewhere.{not_scened_near}
use Rattle.lt_inspect.proofs.Told.{no_scene, over_scene}
use Rattle.lt_inspect.proofs.tracing.trace.Goals as goal

pub returns-in_err-scene : goal.returns-in_err-scene
unfolding ordered_trace_verdict
returns-in_err-scene g c =
    let node = given_word c.args.node in
    let named = (g.F.Files.state c.args.files.now).named in
    answered_near _ _ (ordered_trace_verdict named c.args.program.now c.args.inputs.now c.args.schedule.now c.args.config.now node c.args.from c.args.to) _ _ _
    (no_scene (IsTraced c.args.from c.args.to) node (scene_verdict named c.args.program.now c.args.inputs.now c.args.config.now node) c.args.schedule.now _ _ _ _ c.from_residual.ensures.1 c.in_err-scene.ensures)
    (λ told. near_error _ _ _ _ c.from_residual.ensures.1 (not_scened_near c.args.program.now c.args.inputs.now c.args.config.now node _ _ _ _ told _ c.in_err-scene.ensures))

pub trace_scene-requires : goal.trace_scene-requires
trace_scene-requires g c = counts_on _ _ c.in_ok-scene.ensures.cause.files c.requires

pub returns : goal.returns
unfolding ordered_trace_verdict
returns g c =
    let node = given_word c.args.node in
    let named = (g.F.Files.state c.args.files.now).named in
    let first = c.in_ok-scene.ensures in
    answered_near _ _ (ordered_trace_verdict named c.args.program.now c.args.inputs.now c.args.schedule.now c.args.config.now node c.args.from c.args.to) _ _ _
    (over_scene (IsTraced c.args.from c.args.to) node (scene_verdict named c.args.program.now c.args.inputs.now c.args.config.now node) c.args.schedule.now _ _ c.in_ok-scene.scene _ _ first c.trace_scene.ensures.answered)
    (λ told. near_names _ _ c.args.schedule.now _ _ first.keeps.files.named (c.trace_scene.ensures.near (first.keeps.files.told ∙ told)))
