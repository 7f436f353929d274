-- What is right of what was loaded is right of its plan.
use Rattle.std.proofs.Common.{ℕ, List, Option, Some, None, Result, Ok, Err, IsTrue, inl, inr, subst}
use Rattle.lt_base.specs.declared.value.Value.{Value}
use Rattle.lt_base.specs.Inputs.{InputTable}
use Rattle.lt_base.specs.Program.{WholeProgram}
use Rattle.lt_io.specs.FabricState.{FabricState}
use Rattle.lt_answer.specs.Answered.{Verdict, AndThen}
use Rattle.lt_front.specs.Examined.{ExaminedText}
use Rattle.lt_past.specs.Observer.{Observing}
use Rattle.lt_load_fit.specs.Main.{main_in}
use Rattle.lt_load.specs.Near.{ReadNear}
use Rattle.lt_load.specs.Plan.{Plan, LoadedPlan, IsLoadedFrom, Loads, load_verdict}
use Rattle.lt_evaluate.specs.declared.outputs.Outputs.{Outputs}
use Rattle.lt_evaluate.specs.Main.{cells_verdict}
use Rattle.lt_run.specs.Run.{along_loaded, run_along_verdict}
use Rattle.lt_watch.specs.declared.fault.WatchFault.{WatchFault}
use Rattle.lt_watch.specs.Watch.{InCommand, observer_verdict}
use Rattle.lt_watch.proofs.Stages.{along_of}
use Rattle.lt_plotting.specs.declared.view.PlotView.{PlotView}
use Rattle.lt_plotting.specs.Plotted.{PlotWish, Optional, plot_text_verdict, plot_drawn_by, plot_observed_by, plot_limited_by, faithful_run_verdict, plan_plot_verdict, wish_verdict}
use Rattle.lt_plotting.specs.Stage.{loaded_run_verdict}

then_wider : {T U E : Type 0} (V W : Verdict T E) (next later : T → Verdict U E) → ((o : Result T E) → V o → W o) → ((x : T) (r : Result U E) → next x r → later x r) → (r : Result U E) → AndThen V next r → AndThen W later r
then_wider V W next later first second (Ok u) (inl wrong) = absurd wrong
then_wider V W next later first second (Err e) (inl refused) = inl (first (Err e) refused)
then_wider V W next later first second r (inr q) = inr (q.0, first (Ok q.0) q.1, second q.0 r q.2)

-- by a wider verdict on runs

module _ (run wide : Option (List ℕ) → Verdict Outputs WatchFault) (wider : (file : Option (List ℕ)) (o : Result Outputs WatchFault) → run file o → wide file o)
    (p : WholeProgram) (inputs : List (List Value)) (named : List ℕ → Option (List ℕ)) where
  optional_wider : (schedule : Option (List ℕ)) (o : Result (Option Outputs) WatchFault) → Optional schedule (λ name. run (named name)) o → Optional schedule (λ name. wide (named name)) o
  optional_wider None (Ok None) right = tt
  optional_wider None (Ok (Some x)) right = right
  optional_wider None (Err e) right = right
  optional_wider (Some name) (Ok None) right = right
  optional_wider (Some name) (Ok (Some x)) right = wider (named name) (Ok x) right
  optional_wider (Some name) (Err e) right = wider (named name) (Err e) right

  drawn_wider : (schedule : Option (List ℕ)) (title : List ℕ) (view : PlotView) (o : Option Observing) (r : Result (List ℕ) WatchFault) → plot_drawn_by run p inputs named schedule title view o r → plot_drawn_by wide p inputs named schedule title view o r
  drawn_wider schedule title view o r right =
      then_wider (Optional schedule (λ name. run (named name))) (Optional schedule (λ name. wide (named name))) (λ printed. plot_text_verdict p inputs title view o printed) (λ printed. plot_text_verdict p inputs title view o printed)
      (optional_wider schedule) (λ printed r' h. h) r right

  limited_wider : (w : PlotWish) (r : Result (List ℕ) WatchFault) → plot_limited_by run p inputs named w r → plot_limited_by wide p inputs named w r
  limited_wider w r right =
      then_wider (InCommand (cells_verdict p inputs)) (InCommand (cells_verdict p inputs)) (λ few. plot_observed_by run p inputs named w) (λ few. plot_observed_by wide p inputs named w) (λ o h. h)
      (λ few r' observed.
      then_wider (Optional w.observer (λ name. observer_verdict (main_in p) (named name))) (Optional w.observer (λ name. observer_verdict (main_in p) (named name)))
      (λ o. plot_drawn_by run p inputs named w.schedule w.title w.view o) (λ o. plot_drawn_by wide p inputs named w.schedule w.title w.view o) (λ o h. h) (λ o r'' drawn. drawn_wider w.schedule w.title w.view o r'' drawn) r' observed) r right

-- a plan and what it was loaded as

module _ (plan : Plan) (k : LoadedPlan) (from : IsLoadedFrom plan k) where
  command_right : (fabric : FabricState) (file : Option (List ℕ)) (o : Result Outputs WatchFault) → InCommand (along_loaded fabric k file) o → InCommand (run_along_verdict fabric file plan) o
  command_right fabric file (Ok outputs) right = along_of fabric file plan k from (Ok outputs) right
  command_right fabric file (Err e) right = (right.0, along_of fabric file plan k from (Err right.0) right.1, right.2)

  run_right : (file : Option (List ℕ)) (o : Result Outputs WatchFault) → loaded_run_verdict k file o → faithful_run_verdict plan file o
  run_right file o right = (right.0, right.1, command_right right.0 file o right.2)

  plan_right : (named : List ℕ → Option (List ℕ)) (w : PlotWish) (r : Result (List ℕ) WatchFault) → plot_limited_by (loaded_run_verdict k) k.checked.program k.inputs.rows named w r → plan_plot_verdict named w plan r
  unfolding plan_plot_verdict
  plan_right named w r right =
      let wide = limited_wider (loaded_run_verdict k) (faithful_run_verdict plan) run_right k.checked.program k.inputs.rows named w r right in
      let fed = subst (λ (t : InputTable). plot_limited_by (faithful_run_verdict plan) k.checked.program t.rows named w r) from.inputs wide in
      subst (λ (x : ExaminedText). plot_limited_by (faithful_run_verdict plan) x.program plan.inputs.rows named w r) from.checked fed

-- and the whole

pub wish_wider : (named : List ℕ → Option (List ℕ)) (program inputs : List ℕ) (config : Option (List ℕ)) (w : PlotWish) (r : Result (List ℕ) WatchFault)
    → AndThen (InCommand (Loads (load_verdict named program inputs config))) (λ k. plot_limited_by (loaded_run_verdict k) k.checked.program k.inputs.rows named w) r → wish_verdict named program inputs config w r
unfolding wish_verdict
wish_wider named program inputs config w (Ok text) (inl wrong) = absurd wrong
wish_wider named program inputs config w (Err e) (inl refused) = inl refused
wish_wider named program inputs config w r (inr next) = let from = next.1 in inr (from.0, from.1, plan_right from.0 next.0 from.2 named w r next.2)

-- a run over a fabric that hands over what was sent
pub run_faithful : (k : LoadedPlan) (file : Option (List ℕ)) (place : ℕ) (fabric : FabricState) → IsTrue fabric.faithful → (o : Result Outputs WatchFault) → InCommand (ReadNear file place (along_loaded fabric k file)) o → loaded_run_verdict k file o
run_faithful k file place fabric faithful (Ok outputs) right = (fabric, faithful, right)
run_faithful k file place fabric faithful (Err e) right = (fabric, faithful, (right.0, right.1.0, right.2))
