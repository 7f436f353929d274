-- What the rows of a plot have to do with its run and its streams.
use Rattle.std.specs.Prelude.{◌≡◌, ℕ, List, [], ◌∷◌, ◌++◌, length, map, take, slice_get, slice_index_or, Option, Some, Ok}
use Rattle.lt_base.specs.declared.value.Value.{Value}
use Rattle.lt_base.specs.Program.{WholeProgram}
use Rattle.lt_load_fit.specs.Main.{main_in}
use Rattle.lt_load.specs.Plan.{Plan}
use Rattle.lt_plot.specs.declared.plot.Row.{Row}
use Rattle.lt_evaluate.specs.declared.outputs.Outputs.{Outputs}
use Rattle.lt_evaluate.specs.Main.{output_streams}
use Rattle.lt_text_answers.specs.Texts.{watched_text}
use Rattle.lt_watch.specs.declared.watched.Watched.{Watched}
use Rattle.lt_plotting.specs.Picture.{output_rows}
use Rattle.lt_plotting.specs.Plotted.{faithful_run_verdict}
use Rattle.lt_plotting.specs.Words.{watched_line}

-- the rows of the plot of a run
abbrev pub run_rows : Plan → Outputs → List Row
run_rows plan outputs = output_rows (main_in plan.checked.program) (output_streams plan.checked.program plan.inputs.rows) (map (λ column. length column) outputs.cells)

-- where a plan is run over channels that hand over what was sent, the first cells of each row's stream, as many as were printed, are what the run
-- printed of the output
abbrev pub SolidIsPromised : Type 0
SolidIsPromised =
    (plan : Plan) (schedule : Option (List ℕ)) (outputs : Outputs) → faithful_run_verdict plan schedule (Ok outputs) →
    (y : ℕ) (row : Row) → slice_get (run_rows plan outputs) y ≡ Some row → take row.printed row.cells ≡ slice_index_or outputs.cells y []

-- the line of a plot's observer is what `watch` prints, without its line feed
abbrev pub SaysAsWatch : Type 0
SaysAsWatch = (told : Watched) → watched_line told ++ 10 ∷ [] ≡ watched_text told

-- a window is cut where the streams end: the stream of each row has a cell for each row of inputs
abbrev pub StreamsEndTogether : Type 0
StreamsEndTogether =
    (p : WholeProgram) (inputs : List (List Value)) (lengths : List ℕ) (y : ℕ) (row : Row) →
    slice_get (output_rows (main_in p) (output_streams p inputs) lengths) y ≡ Some row → length row.cells ≡ length inputs
