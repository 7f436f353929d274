use Rattle.std.proofs.Common.{ℕ, ◌<◌}
use Rattle.lt_check.specs.TypeFaults.{BoolClock}
use Rattle.lt_check.proofs.typing.int_clock.Given as goal

abbrev pub invariant-loop-variable : goal.invariant-loop-variable
invariant-loop-variable l = (x : ℕ) → x < l.variable → BoolClock l.f.decls x
