use Rattle.std.proofs.Common.{◌++◌, ◌+◌, ◌-◌, ◌∷◌, [], codes, ap, ◌∙◌}
use Rattle.lt_svg.specs.Pieces.{filled_template}
use Rattle.lt_scale.specs.Scale.{level_text}
use Rattle.lt_scale.specs.Band.{level_y}
use Rattle.lt_plot.specs.Rows.{plot_rule, plot_label}
use Rattle.lt_plot.proofs.Growing.{four}
use Rattle.lt_plot.proofs.row.label.Goals as goal

pub returns : goal.returns
unfolding plot_label
returns c =
    let b = c.args.band.now in
    let chart = c.args.chart.now in
    let x = c.saturating_sub-x.ensures ∙ ap (λ l. l - 6) c.from.ensures in
    four c.rule.result c.args.out.now (filled_template (codes "<text x=\"%\" y=\"%\" class=\"ts e s\">") ((chart.left - 6) ∷ (level_y b c.args.level + 4) ∷ []))
    (level_text b.scale.truth c.args.level) (codes "</text>\n") (plot_rule chart b c.args.level) c.fill.new.out c.write_level.new.out c.extend.new.self c.rule.new.out
    (c.in_ok-fill.ensures ∙ (λ k. c.args.out.now ++ filled_template (codes "<text x=\"%\" y=\"%\" class=\"ts e s\">") (x k ∷ (c.y_at-y.ensures.value k + 4) ∷ [])))
    c.in_ok-write_level.ensures c.in_ok-extend.ensures.ok c.rule.ensures
