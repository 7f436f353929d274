use Rattle.std.proofs.Common.{false, arith}
use Rattle.lt_expand.proofs.Turns.{step_fits}
use Rattle.lt_expand.proofs.raised.raised_clock.Goals as goal

pub overflow_add-step : goal.overflow_add-step
overflow_add-step c =
    let h = step_fits c.args.by c.args.clock.now c.clock.inside.steps c.deref-step-items.result.now c.loop-step.step-index (0, false) c.requires c.clock.view_is c.deref-step-items.ensures c.loop-step-test.true in
    omega (arith, h)
