-- The frame of a plot, and the scales of its rows.
use Rattle.std.specs.Prelude.{ℕ, ◌+◌, ◌-◌, ◌*◌, min, max, List, length, fold, slice_range}
use Rattle.lt_base.specs.declared.value.Cell.{Cell}
use Rattle.lt_scale.specs.declared.chart.Chart.{Chart}
use Rattle.lt_scale.specs.declared.scale.Scale.{Scale}
use Rattle.lt_scale.specs.Chart.{picture_width, window_start, window_end}
use Rattle.lt_scale.specs.Scale.{cells_scale, widest_value}
use Rattle.lt_scale.specs.Band.{top_below}
use Rattle.lt_plot.specs.declared.plot.Row.{Row}
use Rattle.lt_plot.specs.declared.plot.Plot.{Plot}

-- the cells of a stream that are shown
abbrev pub window_cells : (first count : ℕ) → List Cell → List Cell
window_cells first count cells = slice_range cells (window_start first cells) (window_end first count cells)

-- the scale of a row over what is shown
unfoldable pub window_scale : (first count : ℕ) → Row → Scale
window_scale first count r = cells_scale r.truth (window_cells first count r.cells)

-- how many characters of names, and of values at scales, have room on the left
abbrev pub name_room : List Row → ℕ
name_room rows = min 16 (fold (λ most r. max most (length r.name)) 7 rows)

abbrev pub label_room : (first count : ℕ) → List Row → ℕ
label_room first count rows = min 21 (fold (λ most r. max most (widest_value (window_scale first count r))) 5 rows)

-- where the first instant begins
abbrev pub plot_left : Plot → ℕ
plot_left p = 20 + 7 * (name_room p.rows + label_room p.first p.count p.rows)

-- the frame of a plot
unfoldable pub plot_chart : Plot → Chart
plot_chart p = record { width = picture_width p.width; left = plot_left p; breadth = picture_width p.width - 18 - plot_left p; first = p.first; count = p.count }

-- the foot of the last of some rows, which begin at a top
unfoldable pub rows_foot : (top : ℕ) → List Row → ℕ
rows_foot top rows = fold (λ above r. top_below above r.truth) top rows
