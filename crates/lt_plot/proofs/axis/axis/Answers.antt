use Rattle.std.proofs.Common.{◌++◌, ◌+◌, ◌∷◌, [], codes, ap, ◌∙◌}
use Rattle.lt_svg.specs.Pieces.{filled_template}
use Rattle.lt_scale.specs.Chart.{chart_right}
use Rattle.lt_scale.specs.Room.{tick_step}
use Rattle.lt_plot.specs.Around.{plot_ticks, plot_axis}
use Rattle.lt_plot.proofs.Growing.{two, renamed}
use Rattle.lt_plot.proofs.axis.axis.Goals as goal

pub returns : goal.returns
unfolding plot_axis
returns c =
    let chart = c.args.chart.now in
    let bottom = c.args.bottom in
    two c.ticks.result c.args.out.now
    (filled_template (codes "<path d=\"M% %H%\" class=\"nl\"/><text x=\"12\" y=\"%\" class=\"ts s\">instant</text>\n") (chart.left ∷ (bottom + 4) ∷ chart_right chart ∷ (bottom + 21) ∷ []))
    (plot_ticks chart bottom (tick_step chart)) c.fill.new.out c.ticks.new.out
    (c.in_ok-fill.ensures
    ∙ (λ k. c.args.out.now ++ filled_template (codes "<path d=\"M% %H%\" class=\"nl\"/><text x=\"12\" y=\"%\" class=\"ts s\">instant</text>\n") (c.from.ensures k ∷ (c.from-y.ensures k + 4) ∷ c.right.ensures k ∷ (c.from-y.ensures k + 21) ∷ [])))
    (renamed c.ticks.result c.fill.new.out (plot_ticks chart bottom c.tick_step.result) (plot_ticks chart bottom (tick_step chart)) c.ticks.new.out (ap (λ s. plot_ticks chart bottom s) c.tick_step.ensures) c.ticks.ensures)
