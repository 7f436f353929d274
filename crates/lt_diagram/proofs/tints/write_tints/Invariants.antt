use Rattle.std.proofs.Common.{◌≡◌, ◌++◌, drop}
use Rattle.lt_diagram.specs.Template.{each_text}
use Rattle.lt_diagram.specs.Tints.{tint_piece}
use Rattle.lt_diagram.proofs.tints.write_tints.Given as goal

abbrev pub invariant-marks : goal.invariant-marks
invariant-marks l = l.out ++ each_text (tint_piece l.chart l.end) (drop l.k l.marks) ≡ l.initial.out ++ each_text (tint_piece l.chart l.end) l.marks
