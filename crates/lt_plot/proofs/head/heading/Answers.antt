use Rattle.std.proofs.Common.{◌++◌, codes}
use Rattle.lt_svg.specs.Pieces.{escaped}
use Rattle.lt_plot.specs.Around.{judgement_text, plot_heading}
use Rattle.lt_plot.proofs.Growing.{three}
use Rattle.lt_plot.proofs.head.heading.Goals as goal

pub returns : goal.returns
unfolding plot_heading
returns c =
    let p = c.args.plot.now in
    three c.verdict.result c.args.out.now (codes "<text x=\"12\" y=\"24\" class=\"tx b\">" ++ (escaped p.title ++ codes "</text>\n")) (codes "<text x=\"12\" y=\"40\" class=\"ts\">" ++ (escaped p.facts ++ codes "</text>\n"))
    (judgement_text p) c.between.new.out c.between-2.new.out c.verdict.new.out c.in_ok-between.ensures c.in_ok-between-2.ensures c.verdict.ensures
