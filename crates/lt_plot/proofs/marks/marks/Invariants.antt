use Rattle.std.proofs.Common.{◌≡◌, ◌++◌}
use Rattle.lt_plot.specs.Pieces.{pieces_from}
use Rattle.lt_plot.specs.Marks.{instant_mark}
use Rattle.lt_plot.proofs.marks.marks.Given as goal

abbrev pub invariant-loop-place : goal.invariant-loop-place
invariant-loop-place l = l.out ≡ l.initial.out ++ pieces_from (instant_mark l.chart l.band l.cells l.start l.solid) l.start l.place
