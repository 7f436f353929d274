use Rattle.std.proofs.Common.{◌≡◌, ◌++◌, map}
use Rattle.lt_base.specs.Dependence.{clock_vars}
use Rattle.lt_cause.proofs.dependence.push_clock.Given as goal

abbrev pub invariant-loop-step : goal.invariant-loop-step
invariant-loop-step l = l.to ≡ l.fn.to ++ clock_vars (map (λ s. s.now) l.yielded)
