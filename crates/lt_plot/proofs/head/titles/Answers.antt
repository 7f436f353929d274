use Rattle.std.proofs.Common.{◌++◌, codes}
use Rattle.lt_svg.specs.Pieces.{escaped}
use Rattle.lt_plot.specs.Around.{plot_titles}
use Rattle.lt_plot.proofs.Growing.{three}
use Rattle.lt_plot.proofs.head.titles.Goals as goal

pub returns : goal.returns
unfolding plot_titles
returns c =
    let p = c.args.plot.now in
    three c.between-3.result c.args.out.now (codes "<title id=\"t\">" ++ (escaped p.title ++ codes "</title>\n")) (codes "<desc id=\"d\">" ++ (escaped p.facts ++ codes ". "))
    (codes "" ++ (escaped p.verdict ++ codes "</desc>\n")) c.between.new.out c.between-2.new.out c.between-3.new.out c.in_ok-between.ensures c.in_ok-between-2.ensures c.between-3.ensures
