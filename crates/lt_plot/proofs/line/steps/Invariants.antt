use Rattle.std.proofs.Common.{◌≡◌, ◌++◌}
use Rattle.lt_plot.specs.Pieces.{pieces_from}
use Rattle.lt_plot.specs.Lines.{instant_step}
use Rattle.lt_plot.proofs.line.steps.Given as goal

abbrev pub invariant-loop-place : goal.invariant-loop-place
invariant-loop-place l = l.out ≡ l.initial.out ++ pieces_from (instant_step l.chart l.band l.cells l.start) l.start l.place
