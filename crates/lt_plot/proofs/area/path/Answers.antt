use Rattle.std.proofs.Common.{◌-◌, codes}
use Rattle.lt_plot.specs.Pieces.{pieces_from}
use Rattle.lt_plot.specs.Lines.{instant_block, area_path}
use Rattle.lt_plot.proofs.Growing.{three}
use Rattle.lt_plot.proofs.area.path.Goals as goal

pub returns : goal.returns
unfolding area_path
returns c =
    three c.extend-2.result c.args.out.now (codes "<path d=\"") (pieces_from (instant_block c.args.chart.now c.args.band.now c.args.cells.now) c.args.start (c.args.end - c.args.start)) (codes "\" class=\"ar\"/>\n")
    c.extend.new.self c.blocks-2.new.out c.extend-2.new.self c.in_ok-extend.ensures.ok c.in_ok-blocks.ensures c.extend-2.ensures.ok
