use Rattle.lt_run.proofs.Onward.{not_printed, outputs_of}
use Rattle.lt_run.proofs.running.replay_outputs.Goals as goal

pub returns-in_err-printed : goal.returns-in_err-printed
returns-in_err-printed g c = not_printed _ c.args.loaded.now c.args.schedule.now _ _ _ _ _ _ c.from_residual.ensures.1 c.in_err-printed.ensures

pub returns : goal.returns
returns g c = outputs_of _ c.args.loaded.now c.args.schedule.now _ _ _ _ c.in_ok-printed.printed _ c.outputs.ensures.names c.outputs.ensures.cells c.in_ok-printed.ensures
