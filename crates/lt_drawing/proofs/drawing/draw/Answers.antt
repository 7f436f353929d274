use Rattle.lt_answer.specs.Alone.{given_word}
use Rattle.lt_load.proofs.Steps.{counts_on}
use Rattle.lt_inspect.specs.declared.setups.Setups.TheVariants.{Windowed}
use Rattle.lt_inspect.specs.Stages.{stage_verdict}
use Rattle.lt_drawing.specs.Drawn.{draw_verdict}
use Rattle.lt_drawing.proofs.Shown.{not_staged, over_stage}
use Rattle.lt_drawing.proofs.drawing.draw.Goals as goal

pub returns-in_err-stage : goal.returns-in_err-stage
unfolding draw_verdict
returns-in_err-stage g c =
    let node = given_word c.args.node in
    not_staged c.args.schedule.now c.args.config.now node c.args.view (stage_verdict Windowed ((g.F.Files.state c.args.files.now).named) c.args.program.now c.args.inputs.now c.args.config.now node) _ _ _ _ c.from_residual.ensures.1 c.in_err-stage.ensures

pub draw_stage-text-requires : goal.draw_stage-text-requires
draw_stage-text-requires g c = counts_on _ _ c.in_ok-stage.ensures.cause.files c.requires.files

pub returns : goal.returns
unfolding draw_verdict
returns g c =
    let node = given_word c.args.node in
    over_stage c.args.schedule.now c.args.config.now node c.args.view (stage_verdict Windowed ((g.F.Files.state c.args.files.now).named) c.args.program.now c.args.inputs.now c.args.config.now node) _ _ c.in_ok-stage.stage _ c.draw_stage-text.result
    c.in_ok-stage.ensures c.draw_stage-text.ensures
