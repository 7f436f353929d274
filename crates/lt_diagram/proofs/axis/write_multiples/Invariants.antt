use Rattle.std.proofs.Common.{◌≡◌, ◌++◌, ◌-◌}
use Rattle.lt_diagram.specs.Axis.{ticks_from}
use Rattle.lt_diagram.proofs.axis.write_multiples.Given as goal

abbrev pub invariant-multiples : goal.invariant-multiples
invariant-multiples l = l.out ++ ticks_from l.chart l.step l.k (l.last - l.k) ≡ l.initial.out ++ ticks_from l.chart l.step l.first (l.last - l.first)
