use Rattle.std.proofs.Common.{false, length}
use Rattle.lt_place.proofs.Steps.{step_inside}
use Rattle.lt_place.proofs.own.own_clock.Goals as goal

pub bounds-own-step : goal.bounds-own-step
bounds-own-step c = step_inside (length c.args.own.now) c.args.clock.now c.clock.inside.steps c.deref-step-items.result.now c.loop-step.step-index (0, false) c.requires c.clock.view_is c.deref-step-items.ensures c.loop-step-test.true
