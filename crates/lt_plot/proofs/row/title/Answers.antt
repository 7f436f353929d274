use Rattle.std.proofs.Common.{◌++◌, ◌+◌, ◌-◌, ◌/◌, ◌∷◌, [], codes, ◌∙◌}
use Rattle.lt_svg.specs.Pieces.{escaped, filled_template}
use Rattle.lt_scale.specs.Band.{band_base}
use Rattle.lt_plot.specs.Rows.{plot_short_name, plot_name}
use Rattle.lt_plot.proofs.Growing.{four}
use Rattle.lt_plot.proofs.row.title.Goals as goal

pub returns : goal.returns
unfolding plot_name
returns c =
    let b = c.args.band.now in
    let name = c.args.name.now in
    four c.extend.result c.args.out.now (codes "<g><title>" ++ (escaped name ++ codes "</title>")) (filled_template (codes "<text x=\"12\" y=\"%\" class=\"tx\">") ((band_base b - b.height / 2 + 4) ∷ []))
    (plot_short_name name) (codes "</text></g>\n") c.enclosed.new.out c.fill.new.out c.short_name.new.out c.extend.new.self c.in_ok-enclosed.ensures
    (c.in_ok-fill.ensures ∙ (λ k. c.enclosed.new.out ++ filled_template (codes "<text x=\"12\" y=\"%\" class=\"tx\">") ((c.base.ensures.value k - c.from.ensures k + 4) ∷ [])))
    c.in_ok-short_name.ensures c.extend.ensures.ok
