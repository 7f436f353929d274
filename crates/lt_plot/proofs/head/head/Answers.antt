use Rattle.std.proofs.Common.{◌∷◌, [], codes}
use Rattle.lt_svg.specs.Pieces.{filled_template}
use Rattle.lt_plot.specs.Around.{plot_frame, plot_titles, plot_style, plot_head}
use Rattle.lt_plot.proofs.Growing.{four}
use Rattle.lt_plot.proofs.head.head.Goals as goal

pub returns : goal.returns
unfolding plot_head
returns c =
    let w = c.args.width in
    let h = c.args.height in
    four c.fill.result c.args.out.now (plot_frame w h) (plot_titles c.args.plot.now) plot_style (filled_template (codes "<rect width=\"%\" height=\"%\" class=\"bg\"/>\n") (w ∷ h ∷ []))
    c.frame.new.out c.titles.new.out c.style.new.out c.fill.new.out c.in_ok-frame.ensures c.in_ok-titles.ensures c.in_ok-style.ensures c.fill.ensures
