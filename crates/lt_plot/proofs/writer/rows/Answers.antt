use Rattle.std.proofs.Common.{◌++◌, arith}
use Rattle.lt_plot.specs.Rows.{plot_rows}
use Rattle.lt_plot.proofs.Growing.{row_more, rows_done}
use Rattle.lt_plot.proofs.writer.rows.Goals as goal

pub outputs-preserved : goal.outputs-preserved
outputs-preserved c =
    row_more c.args.chart.now c.args.run c.outputs.top c.next_top-top.result c.args.rows.now c.outputs.item-index c.item-item.result c.outputs.out c.row.new.out
    (c.args.out.now ++ plot_rows c.args.chart.now c.args.run c.args.first_top c.args.rows.now) c.outputs-test.true c.item-item.is c.in_ok-row.ensures c.next_top-top.ensures c.outputs.invariant

pub returns : goal.returns
returns c =
    rows_done c.args.chart.now c.args.run c.outputs.top c.args.rows.now c.outputs.item-index c.outputs.out
    (c.args.out.now ++ plot_rows c.args.chart.now c.args.run c.args.first_top c.args.rows.now) (omega arith) c.outputs.invariant
