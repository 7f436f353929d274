use Rattle.std.proofs.Common.{◌≡◌, drop}
use Rattle.lt_diagram.specs.Marks.{closest_from}
use Rattle.lt_diagram.proofs.closeness.closest.Given as goal

abbrev pub invariant-marks : goal.invariant-marks
invariant-marks l = closest_from l.chart l.chart.breadth l.marks ≡ closest_from l.chart l.best (drop l.k l.marks)
