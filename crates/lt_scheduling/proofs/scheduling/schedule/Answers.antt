use Rattle.lt_scheduling.proofs.Loaded.{not_scheduled, scheduled}
use Rattle.lt_scheduling.proofs.scheduling.schedule.Goals as goal

pub returns-in_err-loaded : goal.returns-in_err-loaded
returns-in_err-loaded g c = not_scheduled _ _ _ _ _ _ _ _ _ _ _ _ c.from_residual.ensures.1 c.in_err-loaded.ensures

pub returns : goal.returns
returns g c = scheduled _ _ _ _ _ _ _ _ _ _ c.in_ok-loaded.loaded c.draw-text.result c.in_ok-loaded.ensures c.draw-text.ensures
