-- The steps of a plot, of what was loaded.
use Rattle.std.specs.Prelude.{ℕ, Bool, IsTrue, List, ◌++◌, Option, is_some, Result}
use Rattle.lt_base.specs.declared.memory.Or.{Or}
use Rattle.lt_base.specs.declared.value.Cell.{Cell}
use Rattle.lt_base.specs.Program.{Function}
use Rattle.lt_io.specs.FabricState.{FabricState}
use Rattle.lt_io.specs.FilesState.{FilesState}
use Rattle.lt_answer.specs.Alone.{AnsweredOnFiles}
use Rattle.lt_answer.specs.Answered.{Verdict}
use Rattle.lt_schedule.specs.Errand.{schedule_errand}
use Rattle.lt_past.specs.Observer.{Observing}
use Rattle.lt_load.specs.Errands.{load_errands}
use Rattle.lt_load.specs.Plan.{LoadedPlan}
use Rattle.lt_evaluate.specs.declared.outputs.Outputs.{Outputs}
use Rattle.lt_evaluate.specs.Main.{output_streams}
use Rattle.lt_run.specs.Run.{along_loaded}
use Rattle.lt_watch.specs.declared.fault.WatchFault.{WatchFault}
use Rattle.lt_watch.specs.Blamed.{watch_blame}
use Rattle.lt_watch.specs.Errands.{observer_errand}
use Rattle.lt_watch.specs.Watch.{InCommand, observer_verdict}
use Rattle.lt_plotting.specs.declared.view.PlotView.{PlotView}
use Rattle.lt_plotting.specs.Plotted.{PlotWish, IsPlotText, Optional, optional_errand, printed_cells, plot_drawn_by, plot_observed_by, plot_limited_by, later_errands, wish_verdict}

-- a run of what was loaded along a schedule file, over some fabric that hands over what was sent
abbrev pub loaded_run_verdict : LoadedPlan → (schedule : Option (List ℕ)) → Verdict Outputs WatchFault
loaded_run_verdict k schedule outcome = (fabric : FabricState) × IsTrue fabric.faithful × InCommand (along_loaded fabric k schedule) outcome

-- the run along the file of this name
abbrev pub RunsFaithfully : LoadedPlan → (schedule : List ℕ) → (old new : FilesState) → Result Outputs (Or WatchFault) → Type 0
RunsFaithfully k schedule old new result = AnsweredOnFiles watch_blame (schedule_errand schedule) (loaded_run_verdict k (old.named schedule)) old new result

-- the run, if there is one
abbrev pub RunsIfNamed : LoadedPlan → (schedule : Option (List ℕ)) → (old new : FilesState) → Result (Option Outputs) (Or WatchFault) → Type 0
RunsIfNamed k schedule old new result =
    AnsweredOnFiles watch_blame (optional_errand schedule_errand schedule) (Optional schedule (λ name. loaded_run_verdict k (old.named name))) old new result

-- the observer, if there is one
abbrev pub ObservesIfNamed : Function → (observer : Option (List ℕ)) → (old new : FilesState) → Result (Option Observing) (Or WatchFault) → Type 0
ObservesIfNamed main observer old new result =
    AnsweredOnFiles watch_blame (optional_errand observer_errand observer) (Optional observer (λ name. observer_verdict main (old.named name))) old new result

-- the run and the text
abbrev pub DrawsLoaded : LoadedPlan → (schedule : Option (List ℕ)) (title : List ℕ) → PlotView → Option Observing → (old new : FilesState) → Result (List ℕ) (Or WatchFault) → Type 0
DrawsLoaded k schedule title view o old new result =
    AnsweredOnFiles watch_blame (optional_errand schedule_errand schedule) (plot_drawn_by (loaded_run_verdict k) k.checked.program k.inputs.rows old.named schedule title view o) old new result

-- the observer, the run and the text
abbrev pub ObservesLoaded : LoadedPlan → PlotWish → (old new : FilesState) → Result (List ℕ) (Or WatchFault) → Type 0
ObservesLoaded k w old new result = AnsweredOnFiles watch_blame (later_errands w) (plot_observed_by (loaded_run_verdict k) k.checked.program k.inputs.rows old.named w) old new result

-- the limit, the observer, the run and the text
abbrev pub PlotsLoaded : LoadedPlan → PlotWish → (old new : FilesState) → Result (List ℕ) (Or WatchFault) → Type 0
PlotsLoaded k w old new result = AnsweredOnFiles watch_blame (later_errands w) (plot_limited_by (loaded_run_verdict k) k.checked.program k.inputs.rows old.named w) old new result

-- all of it
abbrev pub PlotsWish : (program inputs : List ℕ) (config : Option (List ℕ)) → PlotWish → (old new : FilesState) → Result (List ℕ) (Or WatchFault) → Type 0
PlotsWish program inputs config w old new result =
    AnsweredOnFiles watch_blame (load_errands program inputs config ++ later_errands w) (wish_verdict old.named program inputs config w) old new result

-- the text of the plot of what was loaded, of which these cells were printed
abbrev pub DrawsText : LoadedPlan → (title : List ℕ) → PlotView → Option Observing → (run : Bool) → (cells : List (List Cell)) → (text : List ℕ) → Type 0
DrawsText k title view o run cells text = IsPlotText k.checked.program k.inputs.rows title view o run cells text

-- the same of a run with these outputs, or of the streams
abbrev pub DrawsPrinted : LoadedPlan → (title : List ℕ) → PlotView → Option Observing → Option Outputs → (text : List ℕ) → Type 0
DrawsPrinted k title view o printed text = DrawsText k title view o (is_some printed) (printed_cells (output_streams k.checked.program k.inputs.rows) printed) text
