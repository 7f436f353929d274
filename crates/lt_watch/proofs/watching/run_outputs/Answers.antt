use Rattle.std.proofs.Common.{Ok, Err, refl}
use Rattle.lt_answer.specs.World.{world}
use Rattle.lt_load.specs.Blamed.{command_blame}
use Rattle.lt_load.proofs.Raising.{raised_value, raised_fault}
use Rattle.lt_run.specs.Run.{along_loaded}
use Rattle.lt_load.proofs.Elsewhere.{answered_near}
use Rattle.lt_watch.specs.declared.fault.WatchFault.TheVariants.{Command}
use Rattle.lt_watch.specs.Blamed.{watch_blame}
use Rattle.lt_watch.specs.Watch.{run_along}
use Rattle.lt_watch.proofs.watching.run_outputs.Goals as goal

pub returns-in-Ok-clause-answered : goal.returns-in-Ok-clause-answered
returns-in-Ok-clause-answered g c =
    raised_value (λ e. Command e) command_blame watch_blame (λ e. refl) _ _ _ c.in-Ok.outputs
    (answered_near _ _ (along_loaded _ c.args.loaded.now _) _ _ (Ok c.in-Ok.outputs) c.in-Ok.ensures.answered c.in-Ok.ensures.near)

pub returns-in-Err-clause-answered : goal.returns-in-Err-clause-answered
returns-in-Err-clause-answered g c =
    raised_fault (λ e. Command e) command_blame watch_blame (λ e. refl) _ _ _ c.in-Err.e c.map.result c.map.ensures
    (answered_near _ _ (along_loaded _ c.args.loaded.now _) _ _ (Err c.in-Err.e) c.in-Err.ensures.answered c.in-Err.ensures.near)
