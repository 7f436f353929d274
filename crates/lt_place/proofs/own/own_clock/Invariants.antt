use Rattle.std.proofs.Common.{◌≡◌, [], take, reverse}
use Rattle.lt_base.specs.Placed.{below}
use Rattle.lt_place.specs.Spread.{own_of}
use Rattle.lt_place.proofs.own.own_clock.Given as goal

abbrev pub invariant-loop-step : goal.invariant-loop-step
invariant-loop-step l = l.new ≡ below (own_of l.own) (reverse (take l.step-index l.step-items)) []
