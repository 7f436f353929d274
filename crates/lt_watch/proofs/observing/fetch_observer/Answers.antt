use Rattle.std.proofs.Common.{refl}
use Rattle.lt_load.specs.Blamed.{command_blame}
use Rattle.lt_load.proofs.Raising.{raised_value, raised_fault}
use Rattle.lt_watch.specs.declared.fault.WatchFault.TheVariants.{Command}
use Rattle.lt_watch.specs.Blamed.{watch_blame}
use Rattle.lt_watch.proofs.observing.fetch_observer.Goals as goal

pub returns-in-Ok : goal.returns-in-Ok
returns-in-Ok g c = raised_value (λ e. Command e) command_blame watch_blame (λ e. refl) _ _ _ c.in-Ok.bytes c.in-Ok.ensures.answered

pub returns-in-Err : goal.returns-in-Err
returns-in-Err g c = raised_fault (λ e. Command e) command_blame watch_blame (λ e. refl) _ _ _ c.in-Err.e c.map.result c.map.ensures c.in-Err.ensures.answered
