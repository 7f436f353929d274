-- A plot, step after step.
use Rattle.std.proofs.Common.{◌≡◌, ◌∙◌, ℕ, List, [], Option, Result, Ok, Err, ap, sym, subst}
use Rattle.std.specs.Prelude.{IsErrAnd}
use Rattle.lt_base.specs.declared.memory.Or.{Or}
use Rattle.lt_base.specs.declared.memory.Or.TheVariants.{Memory}
use Rattle.lt_base.specs.declared.value.Value.{Value}
use Rattle.lt_base.specs.Program.{WholeProgram}
use Rattle.lt_io.specs.FilesState.{FilesState}
use Rattle.lt_answer.specs.World.{alone}
use Rattle.lt_answer.specs.Answered.{Verdict, AndThen, Settles}
use Rattle.lt_answer.proofs.Stages.{errands_all, widened}
use Rattle.lt_schedule.specs.Errand.{schedule_errand}
use Rattle.lt_past.specs.Observer.{Observing}
use Rattle.lt_load_fit.specs.Main.{main_in}
use Rattle.lt_load.specs.Blamed.{command_blame}
use Rattle.lt_load.specs.Plan.{LoadedPlan, Loads, load_verdict}
use Rattle.lt_load.proofs.Steps.{IsContent, Names, untouched, refused_step, next_step, last_step}
use Rattle.lt_evaluate.specs.declared.outputs.Outputs.{Outputs}
use Rattle.lt_evaluate.specs.Main.{cells_verdict}
use Rattle.lt_watch.specs.declared.fault.WatchFault.{WatchFault}
use Rattle.lt_watch.specs.Blamed.{watch_blame}
use Rattle.lt_watch.specs.OnFiles.{LoadsWatched}
use Rattle.lt_watch.specs.Watch.{InCommand, observer_verdict}
use Rattle.lt_plotting.specs.declared.view.PlotView.{PlotView}
use Rattle.lt_plotting.specs.Plotted.{PlotWish, Optional, optional_errand, plot_text_verdict, plot_drawn_by, plot_observed_by, plot_limited_by, later_errands, wish_verdict}
use Rattle.lt_plotting.specs.Stage.{DrawsLoaded, ObservesIfNamed, ObservesLoaded, PlotsLoaded, PlotsWish, RunsIfNamed, loaded_run_verdict}
use Rattle.lt_plotting.proofs.Widened.{wish_wider}

-- no memory was found
pub short_settles : {T E : Type 0} (V : Verdict T E) (r : Result T (Or E)) → IsErrAnd r (λ f. f ≡ Memory) → Settles V r
short_settles V (Ok x) is = absurd is
short_settles {T} V (Err e) is = subst (λ (f : Or _). Settles {T = T} V (Err f)) (sym is) tt

-- what is loaded, and then all else

module _ (program inputs : List ℕ) (config : Option (List ℕ)) (w : PlotWish) (a b : FilesState) where
  abbrev loads : Verdict LoadedPlan WatchFault
  loads = InCommand (Loads (load_verdict a.named program inputs config))

  abbrev plots : Names → LoadedPlan → Verdict (List ℕ) WatchFault
  plots names k = plot_limited_by (loaded_run_verdict k) k.checked.program k.inputs.rows names w

  pub not_loaded : (e : Or WatchFault) (r : Result (List ℕ) (Or WatchFault)) → IsErrAnd r (λ f. f ≡ e) → LoadsWatched program inputs config a b (Err e) → PlotsWish program inputs config w a b r
  not_loaded e r is first =
      widened (AndThen loads (plots a.named)) (wish_verdict a.named program inputs config w) (alone a) (alone b) r (wish_wider a.named program inputs config w) (refused_step watch_blame loads plots a b (later_errands w) e r is first)

  pub then_plotted : (k : LoadedPlan) (c : FilesState) (r : Result (List ℕ) (Or WatchFault)) → LoadsWatched program inputs config a b (Ok k) → PlotsLoaded k w b c r → PlotsWish program inputs config w a c r
  then_plotted k c r first second =
      widened (AndThen loads (plots a.named)) (wish_verdict a.named program inputs config w) (alone a) (alone c) r (wish_wider a.named program inputs config w) (next_step watch_blame loads plots a b k r first c second)

-- the steps behind it

module _ (k : LoadedPlan) where
  abbrev p : WholeProgram
  p = k.checked.program

  abbrev rows : List (List Value)
  rows = k.inputs.rows

  -- the limit

  abbrev few_cells : Verdict (Unit {0}) WatchFault
  few_cells = InCommand (cells_verdict p rows)

  limit_content : IsContent watch_blame few_cells
  limit_content e raised = ap watch_blame raised.2 ∙ ap command_blame raised.1.1

  module _ (w : PlotWish) (a : FilesState) where
    abbrev observes : Names → Unit {0} → Verdict (List ℕ) WatchFault
    observes names few = plot_observed_by (loaded_run_verdict k) p rows names w

    pub over_limit : (e : Or WatchFault) (r : Result (List ℕ) (Or WatchFault)) → IsErrAnd r (λ f. f ≡ e) → Settles few_cells (Err e) → PlotsLoaded k w a a r
    over_limit e r is refused = refused_step watch_blame few_cells observes a a (later_errands w) e r is (untouched watch_blame few_cells (alone a) (Err e) limit_content refused)

    pub within_limit : (few : Unit {0}) (c : FilesState) (r : Result (List ℕ) (Or WatchFault)) → Settles few_cells (Ok few) → ObservesLoaded k w a c r → PlotsLoaded k w a c r
    within_limit few c r right second = next_step watch_blame few_cells observes a a few r (untouched watch_blame few_cells (alone a) (Ok few) limit_content right) c second

  -- the observer

  module _ (w : PlotWish) (a b : FilesState) where
    abbrev observer : Verdict (Option Observing) WatchFault
    observer = Optional w.observer (λ name. observer_verdict (main_in p) (a.named name))

    abbrev draws : Names → Option Observing → Verdict (List ℕ) WatchFault
    draws names o = plot_drawn_by (loaded_run_verdict k) p rows names w.schedule w.title w.view o

    pub no_observer : (e : Or WatchFault) (r : Result (List ℕ) (Or WatchFault)) → IsErrAnd r (λ f. f ≡ e) → ObservesIfNamed (main_in p) w.observer a b (Err e) → ObservesLoaded k w a b r
    no_observer e r is first = refused_step watch_blame observer draws a b (optional_errand schedule_errand w.schedule) e r is first

    pub with_observer : (o : Option Observing) (c : FilesState) (r : Result (List ℕ) (Or WatchFault)) → ObservesIfNamed (main_in p) w.observer a b (Ok o) → DrawsLoaded k w.schedule w.title w.view o b c r → ObservesLoaded k w a c r
    with_observer o c r first second = next_step watch_blame observer draws a b o r first c second

  -- the run

  module _ (schedule : Option (List ℕ)) (title : List ℕ) (view : PlotView) (o : Option Observing) (a b : FilesState) where
    abbrev run : Verdict (Option Outputs) WatchFault
    run = Optional schedule (λ name. loaded_run_verdict k (a.named name))

    abbrev text : Names → Option Outputs → Verdict (List ℕ) WatchFault
    text names printed = plot_text_verdict p rows title view o printed

    pub no_run : (e : Or WatchFault) (r : Result (List ℕ) (Or WatchFault)) → IsErrAnd r (λ f. f ≡ e) → RunsIfNamed k schedule a b (Err e) → DrawsLoaded k schedule title view o a b r
    no_run e r is first = errands_all (alone a) (alone b) r (refused_step watch_blame run text a b [] e r is first)

    pub with_run : (printed : Option Outputs) (r : Result (List ℕ) (Or WatchFault)) → RunsIfNamed k schedule a b (Ok printed) → Settles (plot_text_verdict p rows title view o printed) r → DrawsLoaded k schedule title view o a b r
    with_run printed r first second = last_step watch_blame run text a b printed r first (λ e wrong. absurd wrong) second
