use Rattle.std.proofs.Common.{◌≡◌, ◌++◌, drop}
use Rattle.lt_diagram.specs.Template.{each_text}
use Rattle.lt_diagram.specs.Marks.{mark_piece}
use Rattle.lt_diagram.proofs.marks.write_marks.Given as goal

abbrev pub invariant-marks : goal.invariant-marks
invariant-marks l = l.out ++ each_text (mark_piece l.chart l.style l.names) (drop l.k l.marks) ≡ l.initial.out ++ each_text (mark_piece l.chart l.style l.names) l.marks
