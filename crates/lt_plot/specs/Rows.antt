-- A row: its name, its scale, its line and its marks.
use Rattle.std.specs.Prelude.{ℕ, ◌+◌, ◌-◌, ◌/◌, min, max, Bool, ◌&&◌, nat_lt, nat_le, List, [], ◌∷◌, ◌++◌, length, take, drop, codes, if◌then◌else◌}
use Rattle.lt_scale.specs.declared.chart.Chart.{Chart}
use Rattle.lt_scale.specs.declared.band.Band.{Band}
use Rattle.lt_scale.specs.Chart.{instant_x, chart_right, shows_end, window_start, window_end}
use Rattle.lt_scale.specs.Scale.{scale_floor, level_text}
use Rattle.lt_scale.specs.Band.{band_in, band_base, level_y, top_below}
use Rattle.lt_svg.specs.Pieces.{filled_template, escaped}
use Rattle.lt_plot.specs.declared.plot.Row.{Row}
use Rattle.lt_plot.specs.Pieces.{pieces_from}
use Rattle.lt_plot.specs.Places.{window_scale}
use Rattle.lt_plot.specs.Lines.{plot_line, plot_area}
use Rattle.lt_plot.specs.Marks.{instant_mark}

-- what lies below a row
unfoldable pub plot_ground : Chart → Band → List ℕ
plot_ground c b = filled_template (codes "<rect x=\"%\" y=\"%\" width=\"%\" height=\"%\" class=\"zb\"/>\n") (c.left ∷ b.top ∷ c.breadth ∷ (b.height + 17) ∷ [])

-- a name, of which the middle is left out where it is long
unfoldable pub plot_short_name : List ℕ → List ℕ
plot_short_name name = if nat_le (length name) 16 then escaped name else escaped (take 10 name) ++ (codes ".." ++ escaped (drop (length name - 4) name))

-- a row's name
unfoldable pub plot_name : Band → List ℕ → List ℕ
plot_name b name =
    (codes "<g><title>" ++ (escaped name ++ codes "</title>"))
    ++ (filled_template (codes "<text x=\"12\" y=\"%\" class=\"tx\">") ((band_base b - b.height / 2 + 4) ∷ []) ++ (plot_short_name name ++ codes "</text></g>\n"))

-- a line at a level
unfoldable pub plot_rule : Chart → Band → (level : ℕ) → List ℕ
plot_rule c b l = filled_template (codes "<path d=\"M% %H%\" class=\"gr\"/>\n") (c.left ∷ level_y b l ∷ chart_right c ∷ [])

-- the value at a level, and the line there
unfoldable pub plot_label : Chart → Band → (level : ℕ) → List ℕ
plot_label c b l = filled_template (codes "<text x=\"%\" y=\"%\" class=\"ts e s\">") ((c.left - 6) ∷ (level_y b l + 4) ∷ []) ++ (level_text b.scale.truth l ++ (codes "</text>\n" ++ plot_rule c b l))

-- the line of 0, where 0 is neither at the foot nor at the head
unfoldable pub plot_zero : Chart → Band → List ℕ
plot_zero c b = if nat_lt b.scale.low (scale_floor b.scale) && nat_lt (scale_floor b.scale) b.scale.high then plot_rule c b (scale_floor b.scale) else []

-- the foot and the head of a scale, and its 0
unfoldable pub plot_scale : Chart → Band → List ℕ
plot_scale c b = plot_label c b b.scale.low ++ (plot_label c b b.scale.high ++ plot_zero c b)

-- where a row's line is no longer solid: behind the last cell that the run printed, within what is shown
unfoldable pub solid_end : Chart → Row → ℕ
solid_end c r = min (max r.printed (window_start c.first r.cells)) (window_end c.first c.count r.cells)

-- the marks of a part of the stream
unfoldable pub plot_marks : Chart → Band → Row → (start solid end : ℕ) → List ℕ
plot_marks c b r start solid end = pieces_from (instant_mark c b r.cells start solid) start (end - start)

-- the whole program's stream: solid and filled as far as the run printed it, and the rest pale
abbrev pub plot_stream : Chart → Band → Row → (start solid end : ℕ) → List ℕ
plot_stream c b r start solid end =
    plot_area c b r.cells start solid ++ (plot_line c b r.cells start solid (codes "ln") ++ (plot_line c b r.cells solid end (codes "lp") ++ plot_marks c b r start solid end))

unfoldable pub plot_lines : Chart → Band → Row → List ℕ
plot_lines c b r = plot_stream c b r (window_start c.first r.cells) (solid_end c r) (window_end c.first c.count r.cells)

-- the mark at which the run ends
unfoldable pub plot_end : Chart → Band → (run : Bool) → (printed : ℕ) → List ℕ
plot_end c b run printed =
    if run && shows_end c printed then
    filled_template (codes "<path d=\"M% %v%\" class=\"fr\"/><path d=\"M% %l-5 -4v8z\" class=\"ex\"/>\n") (instant_x c printed ∷ (b.top + 1) ∷ (b.height + 15) ∷ instant_x c printed ∷ (b.top + 9 + b.height / 2) ∷ [])
    else []

-- a row at its place
unfoldable pub plot_row_at : Chart → Band → (run : Bool) → Row → List ℕ
plot_row_at c b run r = plot_ground c b ++ (plot_name b r.name ++ (plot_scale c b ++ (plot_lines c b r ++ plot_end c b run r.printed)))

-- a row at its top
unfoldable pub plot_row : Chart → (run : Bool) → (top : ℕ) → Row → List ℕ
plot_row c run top r = plot_row_at c (band_in top (window_scale c.first c.count r)) run r

-- rows below one another
unfoldable pub plot_rows : Chart → (run : Bool) → (top : ℕ) → List Row → List ℕ
plot_rows c run top [] = []
plot_rows c run top (r ∷ rs) = plot_row c run top r ++ plot_rows c run (top_below top r.truth) rs
