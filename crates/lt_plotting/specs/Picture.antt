-- The picture of a plot: its rows, and what stands around them.
use Rattle.std.specs.Prelude.{ℕ, ◌-◌, ◌*◌, ◌/◌, nat_lt, Bool, true, false, List, [], length, map, slice_index_or, Option, Some, None, unwrap_or, if◌then◌else◌}
use Rattle.lt_base.specs.declared.value.Cell.{Cell}
use Rattle.lt_base.specs.declared.value.Ty.{Ty}
use Rattle.lt_base.specs.declared.value.Ty.TheVariants as ty
use Rattle.lt_base.specs.declared.value.Value.{Value}
use Rattle.lt_base.specs.Program.{Function, WholeProgram}
use Rattle.lt_past.specs.Naming.{declaration, numbers_below}
use Rattle.lt_scale.specs.Chart.{picture_width}
use Rattle.lt_plot.specs.declared.plot.Row.{Row}
use Rattle.lt_plot.specs.declared.plot.Plot.{Plot}
use Rattle.lt_plot.specs.Places.{name_room}
use Rattle.lt_load_fit.specs.Main.{main_in}
use Rattle.lt_evaluate.specs.Main.{written_name, output_streams}
use Rattle.lt_watch.specs.declared.watched.Watched.{Watched}
use Rattle.lt_watch.specs.declared.watched.Watched.TheVariants.{Holds, Fails}
use Rattle.lt_plotting.specs.declared.course.Course.{Course}
use Rattle.lt_plotting.specs.declared.view.PlotView.{PlotView}
use Rattle.lt_plotting.specs.declared.view.PlotWindow.{PlotWindow}
use Rattle.lt_plotting.specs.Window.{plot_window}
use Rattle.lt_plotting.specs.Words.{plot_facts, told_line}

-- a type is that of truth values
abbrev pub is_truth_type : Ty → Bool
is_truth_type ty.Bool = true
is_truth_type ty.Int = false

-- the row of the output at a place: its name, whether it was declared as a truth value, its stream, and how much of that was printed
unfoldable pub output_row : (main : Function) (place : ℕ) (stream : List Cell) (printed : ℕ) → Row
output_row main place stream printed =
    let x = slice_index_or main.outs place 0 in
    record { name = written_name main x; truth = is_truth_type (declaration main x).ty; cells = stream; printed = printed }

-- a row for each output, in order
abbrev pub output_rows : (main : Function) (streams : List (List Cell)) (lengths : List ℕ) → List Row
output_rows main streams lengths = map (λ place. output_row main place (slice_index_or streams place []) (slice_index_or lengths place 0)) (numbers_below (length main.outs))

-- the first instant at which an observer fails; an instant that 32 bits have no room for is past all streams
unfoldable pub failing_instant : Option Watched → Option ℕ
failing_instant None = None
failing_instant (Some (Holds n)) = None
failing_instant (Some (Fails i)) = if nat_lt i 4294967296 then Some i else None

-- how wide a plot is to be, where nothing else is asked for
abbrev pub plot_width : PlotView → ℕ
plot_width view = unwrap_or view.width 760

-- how many instants have room beside the names of rows: one for each 5 pixels
abbrev pub instants_room : (width : ℕ) → List Row → ℕ
instants_room width rows = (picture_width width - 30 - 7 * name_room rows) / 5

-- the plot of a window
abbrev pub framed : PlotWindow → (width total : ℕ) → List Row → (title : List ℕ) → Course → Plot
framed window width total rows title course = record {
  width = width;
  first = window.first;
  count = window.count;
  title = title;
  facts = plot_facts window total course;
  verdict = told_line course.told;
  run = course.run;
  rows = rows;
  failure = failing_instant course.told;
}

-- the plot of these rows, whose streams have so many instants
abbrev pub picture : (total : ℕ) → List Row → (title : List ℕ) → PlotView → Course → Plot
picture total rows title view course =
    let width = plot_width view in
    framed (plot_window view (instants_room width rows) total (failing_instant course.told)) width total rows title course

-- the plot of a program's outputs on rows of inputs, with what was printed of them
abbrev pub program_picture : WholeProgram → (inputs : List (List Value)) → (title : List ℕ) → PlotView → Course → Plot
program_picture p inputs title view course = picture (length inputs) (output_rows (main_in p) (output_streams p inputs) course.lengths) title view course
