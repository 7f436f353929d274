-- What is right of a plot, given the files' bytes.
use Rattle.std.specs.Prelude.{◌≡◌, ℕ, Bool, IsTrue, List, [], ◌++◌, length, map, Option, Some, None, option_map, is_some, Result, Ok, Err}
use Rattle.lt_base.specs.declared.memory.Or.{Or}
use Rattle.lt_base.specs.declared.value.Cell.{Cell}
use Rattle.lt_base.specs.declared.value.Value.{Value}
use Rattle.lt_base.specs.Program.{WholeProgram}
use Rattle.lt_io.specs.FabricState.{FabricState}
use Rattle.lt_io.specs.FilesState.{FilesState}
use Rattle.lt_io.specs.Visits.{Errand}
use Rattle.lt_answer.specs.Alone.{AnsweredOnFiles}
use Rattle.lt_answer.specs.Answered.{Verdict, AndThen}
use Rattle.lt_schedule.specs.Errand.{schedule_errand}
use Rattle.lt_past.specs.Observer.{Observing}
use Rattle.lt_plot.specs.PlotText.{plot_text}
use Rattle.lt_load_fit.specs.Main.{main_in}
use Rattle.lt_load.specs.Errands.{load_errands}
use Rattle.lt_load.specs.Plan.{Plan, load_verdict}
use Rattle.lt_evaluate.specs.declared.outputs.Outputs.{Outputs}
use Rattle.lt_evaluate.specs.Main.{cells_verdict, output_streams}
use Rattle.lt_run.specs.Run.{run_along_verdict}
use Rattle.lt_watch.specs.declared.fault.WatchFault.{WatchFault}
use Rattle.lt_watch.specs.declared.watched.Watched.{Watched}
use Rattle.lt_watch.specs.Blamed.{watch_blame}
use Rattle.lt_watch.specs.Errands.{observer_errand}
use Rattle.lt_watch.specs.Judged.{WatchTells}
use Rattle.lt_watch.specs.Watch.{InCommand, observer_verdict}
use Rattle.lt_plotting.specs.declared.course.Course.{Course}
use Rattle.lt_plotting.specs.declared.view.PlotView.{PlotView}
use Rattle.lt_plotting.specs.Picture.{program_picture}
use Rattle.lt_plotting.specs.Words.{plot_title}

-- what is asked for: along which schedule and by which observer, if any, with which title, and what of it is shown
pub record PlotWish : Type 0 where
  pub schedule : Option (List ℕ)
  pub observer : Option (List ℕ)
  pub title : List ℕ
  pub view : PlotView

abbrev pub wish_of : (schedule observer : Option (List ℕ)) → (title : List ℕ) → PlotView → PlotWish
wish_of schedule observer title view = record { schedule = schedule; observer = observer; title = title; view = view }

-- a step that is made where a file is named
abbrev pub Optional : {T E : Type 0} → Option (List ℕ) → (List ℕ → Verdict T E) → Verdict (Option T) E
Optional None V (Ok None) = Unit {0}
Optional None V (Ok (Some x)) = ⊥
Optional None V (Err e) = ⊥
Optional (Some name) V (Ok None) = ⊥
Optional (Some name) V (Ok (Some x)) = V name (Ok x)
Optional (Some name) V (Err e) = V name (Err e)

-- its errands
abbrev pub optional_errand : (List ℕ → List Errand) → Option (List ℕ) → List Errand
optional_errand errand None = []
optional_errand errand (Some name) = errand name

-- what an observer makes of these cells, where there is one
abbrev pub TellsOf : Option Observing → List (List Cell) → Option Watched → Type 0
TellsOf None cells None = Unit {0}
TellsOf None cells (Some told) = ⊥
TellsOf (Some o) cells None = ⊥
TellsOf (Some o) cells (Some told) = WatchTells o cells told

-- these cells were printed of the outputs, by a run or as their streams, and an observer watches them or none does
pub record IsCourse (run : Bool) (o : Option Observing) (cells : List (List Cell)) (course : Course) : Type 0 where
  pub run_is : course.run ≡ run
  pub lengths_are : course.lengths ≡ map (λ column. length column) cells
  pub tells : TellsOf o cells course.told

-- the text of the plot of a program's outputs, of which these cells were printed
pub record IsPlotText (p : WholeProgram) (inputs : List (List Value)) (title : List ℕ) (view : PlotView) (o : Option Observing) (run : Bool) (cells : List (List Cell)) (text : List ℕ) : Type 0 where
  pub course : Course
  pub is : IsCourse run o cells course
  pub text_is : text ≡ plot_text (program_picture p inputs title view course)

-- the cells of a run, or the streams where there is none
abbrev pub printed_cells : (streams : List (List Cell)) → Option Outputs → List (List Cell)
printed_cells streams None = streams
printed_cells streams (Some outputs) = outputs.cells

-- no refusal, and this text
abbrev pub plot_text_verdict : WholeProgram → (inputs : List (List Value)) → (title : List ℕ) → PlotView → Option Observing → Option Outputs → Verdict (List ℕ) WatchFault
plot_text_verdict p inputs title view o printed (Ok text) = IsPlotText p inputs title view o (is_some printed) (printed_cells (output_streams p inputs) printed) text
plot_text_verdict p inputs title view o printed (Err fault) = ⊥

-- by a verdict on runs along a schedule file: the run, if there is one, and then the text
abbrev pub plot_drawn_by : (run : Option (List ℕ) → Verdict Outputs WatchFault) → WholeProgram → (inputs : List (List Value)) → (named : List ℕ → Option (List ℕ)) → (schedule : Option (List ℕ)) (title : List ℕ) → PlotView → Option Observing → Verdict (List ℕ) WatchFault
plot_drawn_by run p inputs named schedule title view o = AndThen (Optional schedule (λ name. run (named name))) (λ printed. plot_text_verdict p inputs title view o printed)

-- the observer, if there is one, comes before it
abbrev pub plot_observed_by : (run : Option (List ℕ) → Verdict Outputs WatchFault) → WholeProgram → (inputs : List (List Value)) → (named : List ℕ → Option (List ℕ)) → PlotWish → Verdict (List ℕ) WatchFault
plot_observed_by run p inputs named w = AndThen (Optional w.observer (λ name. observer_verdict (main_in p) (named name))) (λ o. plot_drawn_by run p inputs named w.schedule w.title w.view o)

-- and the limit on the cells of the whole program before both
abbrev pub plot_limited_by : (run : Option (List ℕ) → Verdict Outputs WatchFault) → WholeProgram → (inputs : List (List Value)) → (named : List ℕ → Option (List ℕ)) → PlotWish → Verdict (List ℕ) WatchFault
plot_limited_by run p inputs named w = AndThen (InCommand (cells_verdict p inputs)) (λ few. plot_observed_by run p inputs named w)

-- a run of a plan along a schedule file, over some fabric that hands over what was sent
abbrev pub faithful_run_verdict : Plan → (schedule : Option (List ℕ)) → Verdict Outputs WatchFault
faithful_run_verdict plan schedule outcome = (fabric : FabricState) × IsTrue fabric.faithful × InCommand (run_along_verdict fabric schedule plan) outcome

-- a plan: the limit, the observer, the run and the text
unfoldable pub plan_plot_verdict : (named : List ℕ → Option (List ℕ)) → PlotWish → Plan → Verdict (List ℕ) WatchFault
plan_plot_verdict named w plan = plot_limited_by (faithful_run_verdict plan) plan.checked.program plan.inputs.rows named w

-- the program, the setup, the placement, the timing and the inputs come before it, in this order
unfoldable pub wish_verdict : (named : List ℕ → Option (List ℕ)) (program inputs : List ℕ) (config : Option (List ℕ)) → PlotWish → Verdict (List ℕ) WatchFault
wish_verdict named program inputs config w = AndThen (InCommand (load_verdict named program inputs config)) (λ plan. plan_plot_verdict named w plan)

-- behind what a run is of, the observer if there is one, and the schedule if there is one
abbrev pub later_errands : PlotWish → List Errand
later_errands w = optional_errand observer_errand w.observer ++ optional_errand schedule_errand w.schedule

-- what is asked for, with a run along a schedule by a setup or without one
abbrev pub plot_wish : (program inputs : List ℕ) (along : Option (List ℕ × List ℕ)) (observer : Option (List ℕ)) → PlotView → PlotWish
plot_wish program inputs along observer view = wish_of (option_map (λ a. a.0) along) observer (plot_title program inputs along) view

-- the program, the setup if there is one, the inputs, the observer if there is one, and the schedule if there is one
abbrev pub plot_errands : (program inputs : List ℕ) (along : Option (List ℕ × List ℕ)) (observer : Option (List ℕ)) → List Errand
plot_errands program inputs along observer = load_errands program inputs (option_map (λ a. a.1) along) ++ (optional_errand observer_errand observer ++ optional_errand schedule_errand (option_map (λ a. a.0) along))

-- the text of the plot of these files, or the first refusal
abbrev pub plot_verdict : (named : List ℕ → Option (List ℕ)) (program inputs : List ℕ) (along : Option (List ℕ × List ℕ)) (observer : Option (List ℕ)) → PlotView → Verdict (List ℕ) WatchFault
plot_verdict named program inputs along observer view = wish_verdict named program inputs (option_map (λ a. a.1) along) (plot_wish program inputs along observer view)

-- what is answered of a plot
abbrev pub PlotsOnFiles : (program inputs : List ℕ) (along : Option (List ℕ × List ℕ)) (observer : Option (List ℕ)) → PlotView → (old new : FilesState) → Result (List ℕ) (Or WatchFault) → Type 0
PlotsOnFiles program inputs along observer view old new result =
    AnsweredOnFiles watch_blame (plot_errands program inputs along observer) (plot_verdict old.named program inputs along observer view) old new result
