use Rattle.std.proofs.Common.{◌≡◌, take, reverse}
use Rattle.lt_base.specs.Placed.{below}
use Rattle.lt_expand.specs.Copies.{raise}
use Rattle.lt_expand.proofs.raised.raised_clock.Given as goal

abbrev pub invariant-loop-step : goal.invariant-loop-step
invariant-loop-step l = l.raised ≡ below (raise l.by) (reverse (take l.step-index l.step-items)) l.place
