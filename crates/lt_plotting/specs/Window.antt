-- Which instants a plot shows.
use Rattle.std.specs.Prelude.{ℕ, ◌+◌, ◌-◌, ◌/◌, min, max, nat_lt, Option, Some, None, unwrap_or, if◌then◌else◌}
use Rattle.lt_plotting.specs.declared.view.PlotView.{PlotView}
use Rattle.lt_plotting.specs.declared.view.PlotWindow.{PlotWindow}

-- where a window begins that is not told to: at 0, or around a failure where that is past as many instants as have room
abbrev pub usual_start : (room : ℕ) → (failure : Option ℕ) → ℕ
usual_start room None = 0
usual_start room (Some k) = if nat_lt k room then 0 else k - room / 2

-- the instant behind the last one that is wished: behind the one that is told, or as many instants on as have room
abbrev pub wished_end : (room first : ℕ) → (last : Option ℕ) → ℕ
wished_end room first None = first + room
wished_end room first (Some k) = k + 1

-- from an instant up to another, cut where the streams end; one instant at least
abbrev pub window_from : (first end total : ℕ) → PlotWindow
window_from first end total = record { first = first; count = max 1 (min end total - first) }

-- the window of a view, where so many instants have room, the streams have so many, and an observer first fails at one, or at none
unfoldable pub plot_window : PlotView → (room total : ℕ) → (failure : Option ℕ) → PlotWindow
plot_window view room total failure =
    let first = unwrap_or view.from (usual_start room failure) in
    window_from first (wished_end room first view.to) total
