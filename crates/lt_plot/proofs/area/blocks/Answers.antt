use Rattle.lt_plot.specs.Lines.{instant_block}
use Rattle.lt_plot.proofs.Growing.{one_more}
use Rattle.lt_plot.proofs.area.blocks.Goals as goal

pub loop-place-preserved : goal.loop-place-preserved
loop-place-preserved c = one_more (instant_block c.args.chart.now c.args.band.now c.args.cells.now) c.args.start c.loop-place.place c.args.out.now c.loop-place.out c.block.new.out c.loop-place.invariant c.in_ok-block.ensures
