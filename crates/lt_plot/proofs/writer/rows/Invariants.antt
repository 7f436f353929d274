use Rattle.std.proofs.Common.{◌≡◌, ◌++◌, drop}
use Rattle.lt_plot.specs.Rows.{plot_rows}
use Rattle.lt_plot.proofs.writer.rows.Given as goal

-- what is left to be drawn, from the top that is next
abbrev pub invariant-outputs : goal.invariant-outputs
invariant-outputs l = l.out ++ plot_rows l.chart l.run l.top (drop l.item-index l.rows) ≡ l.initial.out ++ plot_rows l.chart l.run l.first_top l.rows
