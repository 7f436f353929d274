use Rattle.lt_plot.specs.Marks.{instant_mark}
use Rattle.lt_plot.proofs.Growing.{one_more}
use Rattle.lt_plot.proofs.marks.marks.Goals as goal

pub loop-place-preserved : goal.loop-place-preserved
loop-place-preserved c = one_more (instant_mark c.args.chart.now c.args.band.now c.args.cells.now c.args.start c.args.solid) c.args.start c.loop-place.place c.args.out.now c.loop-place.out c.mark.new.out c.loop-place.invariant c.in_ok-mark.ensures
