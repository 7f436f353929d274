use Rattle.std.proofs.Common.{◌≡◌, ◌++◌}
use Rattle.lt_plot.specs.Pieces.{pieces_from}
use Rattle.lt_plot.specs.Around.{plot_tick}
use Rattle.lt_plot.proofs.axis.ticks.Given as goal

abbrev pub invariant-loop-place : goal.invariant-loop-place
invariant-loop-place l = l.out ≡ l.initial.out ++ pieces_from (plot_tick l.chart l.bottom l.step) l.chart.first l.place
