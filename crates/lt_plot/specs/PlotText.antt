-- The text of a plot.
use Rattle.std.specs.Prelude.{ℕ, ◌+◌, Bool, true, false, List, [], ◌∷◌, ◌++◌, codes, if◌then◌else◌}
use Rattle.lt_scale.specs.declared.chart.Chart.{Chart}
use Rattle.lt_scale.specs.Room.{dots_fit}
use Rattle.lt_plot.specs.declared.plot.Plot.{Plot}
use Rattle.lt_plot.specs.Places.{plot_chart, rows_foot}
use Rattle.lt_plot.specs.Rows.{plot_rows}
use Rattle.lt_plot.specs.Around.{plot_head, plot_heading, plot_axis, plot_failure, plot_legend}

-- no byte stands in a text
abbrev pub has_no_byte : List ℕ → Bool
has_no_byte [] = true
has_no_byte (c ∷ cs) = false

-- the top of the first row: below two lines of text, and a third where an observer watches
unfoldable pub rows_top : Plot → ℕ
rows_top p = if has_no_byte p.verdict then 58 else 82

-- the rows, and what stands around them
unfoldable pub plot_drawn : Chart → Plot → (top bottom : ℕ) → List ℕ
plot_drawn c p top bottom = plot_rows c p.run top p.rows ++ (plot_axis c bottom ++ (plot_failure c top bottom p.failure ++ plot_legend p.run (dots_fit c) bottom))

abbrev pub plot_by : Chart → Plot → (top bottom : ℕ) → List ℕ
plot_by c p top bottom = plot_head p c.width (bottom + 54) ++ (plot_heading p ++ (plot_drawn c p top bottom ++ codes "</svg>\n"))

-- the picture as one SVG
unfoldable pub plot_text : Plot → List ℕ
plot_text p = plot_by (plot_chart p) p (rows_top p) (rows_foot (rows_top p) p.rows)
