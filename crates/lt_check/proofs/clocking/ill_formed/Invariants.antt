use Rattle.std.proofs.Common.{ℕ, ◌<◌}
use Rattle.lt_check.specs.ClockFaults.{GoodClock}
use Rattle.lt_check.proofs.clocking.ill_formed.Given as goal

abbrev pub invariant-loop-variable : goal.invariant-loop-variable
invariant-loop-variable l = (x : ℕ) → x < l.variable → GoodClock l.f.decls x
