-- A plot leaves one refusal, up to its kind.
use Rattle.std.proofs.Common.{◌≡◌, ℕ, List, length, Option, Some, None, Result, Ok, Err, inl, inr}
use Rattle.std.specs.Prelude.{option_map}
use Rattle.lt_base.specs.declared.value.Value.{Value}
use Rattle.lt_base.specs.Program.{WholeProgram}
use Rattle.lt_arch.specs.declared.pace.Pace.{Pace}
use Rattle.lt_arch.specs.declared.shape.Shape.{Shape}
use Rattle.lt_arch.specs.declared.timing.Timing.{Timing}
use Rattle.lt_io.specs.FabricState.{FabricState}
use Rattle.lt_answer.specs.Answered.{Verdict, AndThen}
use Rattle.lt_answer.proofs.Decided.{HasOneKind, and_then, raised, raised_one}
use Rattle.lt_past.specs.Observer.{Observing}
use Rattle.lt_load_fit.specs.declared.fault.CommandFault.{CommandFault}
use Rattle.lt_load_fit.specs.Main.{main_in}
use Rattle.lt_load.specs.Plan.{Plan, load_verdict}
use Rattle.lt_load.proofs.OneLoad.{TellsLimits}
use Rattle.lt_load.proofs.OneCheck.{MergesPlaces, MergesTimings}
use Rattle.lt_load.proofs.OnePlan.{load_decided}
use Rattle.lt_evaluate.specs.declared.outputs.Outputs.{Outputs}
use Rattle.lt_evaluate.specs.Main.{cells_verdict}
use Rattle.lt_evaluate.proofs.OneMeaning.{cells_decided}
use Rattle.lt_run.specs.declared.fault.RunFault.{RunFault}
use Rattle.lt_run.specs.Kinds.{EventsBy, RunEndsBy, fault_by, run_file_verdict, verdict_by}
use Rattle.lt_run.specs.Run.{run_along_verdict}
use Rattle.lt_run.proofs.OneRun.{along_decided}
use Rattle.lt_watch.specs.declared.fault.WatchFault.{WatchFault}
use Rattle.lt_watch.specs.declared.fault.WatchFault.TheVariants.{Command}
use Rattle.lt_watch.specs.Watch.{InCommand, observer_verdict}
use Rattle.lt_watch.proofs.OneWatch.{MergesObservers, observer_decided}
use Rattle.lt_plotting.specs.declared.view.PlotView.{PlotView}
use Rattle.lt_plotting.specs.Plotted.{PlotWish, Optional, plot_text_verdict, plot_drawn_by, plot_observed_by, plot_limited_by, faithful_run_verdict, plan_plot_verdict, wish_verdict, plot_wish, plot_verdict}
use Rattle.lt_plotting.proofs.Optional.{optional_kind, optional_one}

-- a refusal of a schedule is the same over every fabric

other_end : {E F : Type 0} (raise : F → RunFault) (end end' : E → Outputs → Type 0) (v : Result E F) (f : RunFault) → RunEndsBy raise end v (Err f) → RunEndsBy raise end' v (Err f)
other_end raise end end' (Ok events) f right = right
other_end raise end end' (Err refused) f right = right

other_file : (pace : Pace) (end end' : EventsBy pace → Outputs → Type 0) (s : Shape) (t : Timing) (rows : ℕ) (file : Option (List ℕ)) (f : RunFault) → run_file_verdict pace end s t rows file (Err f) → run_file_verdict pace end' s t rows file (Err f)
unfolding run_file_verdict
other_file pace end end' s t rows None f right = right
other_file pace end end' s t rows (Some bytes) f right = other_end (fault_by pace) end end' (verdict_by pace s t rows bytes) f right

other_fabric : (fabric other : FabricState) (file : Option (List ℕ)) (plan : Plan) (e : CommandFault) → run_along_verdict fabric file plan (Err e) → run_along_verdict other file plan (Err e)
unfolding run_along_verdict
other_fabric fabric other file plan e right =
    let fault = right.3 in
    (right.0, right.1, right.2, (fault.0, other_file plan.setup.pace _ _ right.1 plan.setup.timing (length plan.inputs.rows) file fault.0 fault.1, fault.2))

module _ {K : Type 0} (kind : WatchFault → K) where
  -- a step that is not refused, after one
  silent_then : {T U : Type 0} (V : Verdict T WatchFault) (next : T → Verdict U WatchFault) → HasOneKind kind V → ((x : T) (e : WatchFault) → next x (Err e) → ⊥) → HasOneKind kind (AndThen V next)
  silent_then {T} {U} V next one silent = record { one_kind = one_kind; not_both = both }
    where
      one_kind : (e f : WatchFault) → AndThen V next (Err e) → AndThen V next (Err f) → kind e ≡ kind f
      one_kind e f (inl p) (inl q) = one.one_kind e f p q
      one_kind e f (inr p) q = absurd (silent p.0 e p.2)
      one_kind e f p (inr q) = absurd (silent q.0 f q.2)

      both : (e : WatchFault) (x : U) → AndThen V next (Err e) → AndThen V next (Ok x) → ⊥
      both e x p (inl q) = q
      both e x (inl p) (inr q) = one.not_both e q.0 p q.1
      both e x (inr p) q = silent p.0 e p.2

  module _ (plan : Plan) (file : Option (List ℕ)) where
    abbrev along : FabricState → Result Outputs WatchFault → Type 0
    along fabric = InCommand (run_along_verdict fabric file plan)

    over : (fabric other : FabricState) (e : WatchFault) → along fabric (Err e) → along other (Err e)
    over fabric other e right = (right.0, other_fabric fabric other file plan right.0 right.1, right.2)

    one_along : (fabric : FabricState) → HasOneKind kind (along fabric)
    one_along fabric = raised (λ e. Command e) kind (run_along_verdict fabric file plan) (along_decided (λ e. kind (Command e)) fabric file plan)

    run_decided : HasOneKind kind (faithful_run_verdict plan file)
    run_decided = record {
      one_kind = λ e f p q. (one_along p.0).one_kind e f p.2 (over q.0 p.0 f q.2);
      not_both = λ e x p q. (one_along q.0).not_both e x (over p.0 q.0 e p.2) q.2;
    }

  module _ (run : Option (List ℕ) → Verdict Outputs WatchFault) (one : (file : Option (List ℕ)) → HasOneKind kind (run file)) (p : WholeProgram) (inputs : List (List Value)) (named : List ℕ → Option (List ℕ)) where
    drawn_decided : (schedule : Option (List ℕ)) (title : List ℕ) (view : PlotView) (o : Option Observing) → HasOneKind kind (plot_drawn_by run p inputs named schedule title view o)
    drawn_decided schedule title view o =
        silent_then (Optional schedule (λ name. run (named name))) (λ printed. plot_text_verdict p inputs title view o printed) (optional_kind kind (λ name. run (named name)) schedule (λ name. one (named name))) (λ printed e wrong. wrong)

    observed_decided : MergesObservers kind → (w : PlotWish) → HasOneKind kind (plot_observed_by run p inputs named w)
    observed_decided merges w =
        and_then kind (Optional w.observer (λ name. observer_verdict (main_in p) (named name))) (λ o. plot_drawn_by run p inputs named w.schedule w.title w.view o)
        (optional_one kind (λ name. observer_verdict (main_in p) (named name)) w.observer (λ name. observer_decided kind merges (main_in p) (named name))) (λ o. drawn_decided w.schedule w.title w.view o)

    limited_decided : MergesObservers kind → (w : PlotWish) → HasOneKind kind (plot_limited_by run p inputs named w)
    limited_decided merges w =
        and_then kind (InCommand (cells_verdict p inputs)) (λ few. plot_observed_by run p inputs named w)
        (raised_one (λ e. Command e) kind (cells_verdict p inputs) (cells_decided (λ e. kind (Command e)) p inputs)) (λ few. observed_decided merges w)

  plan_decided : MergesObservers kind → (named : List ℕ → Option (List ℕ)) (w : PlotWish) (plan : Plan) → HasOneKind kind (plan_plot_verdict named w plan)
  unfolding plan_plot_verdict
  plan_decided merges named w plan = limited_decided (faithful_run_verdict plan) (run_decided plan) plan.checked.program plan.inputs.rows named merges w

  wish_decided : TellsLimits (λ e. kind (Command e)) → MergesPlaces (λ e. kind (Command e)) → MergesTimings (λ e. kind (Command e)) → MergesObservers kind → (named : List ℕ → Option (List ℕ)) (program inputs : List ℕ) (config : Option (List ℕ)) (w : PlotWish)
      → HasOneKind kind (wish_verdict named program inputs config w)
  unfolding wish_verdict
  wish_decided limits places timings merges named program inputs config w =
      and_then kind (InCommand (load_verdict named program inputs config)) (λ plan. plan_plot_verdict named w plan)
      (raised_one (λ e. Command e) kind (load_verdict named program inputs config) (load_decided (λ e. kind (Command e)) limits places timings named program inputs config)) (λ plan. plan_decided merges named w plan)

  -- right refusals are of one kind, and then no text is right
  pub plot_decided : TellsLimits (λ e. kind (Command e)) → MergesPlaces (λ e. kind (Command e)) → MergesTimings (λ e. kind (Command e)) → MergesObservers kind
      → (named : List ℕ → Option (List ℕ)) (program inputs : List ℕ) (along : Option (List ℕ × List ℕ)) (observer : Option (List ℕ)) (view : PlotView) → HasOneKind kind (plot_verdict named program inputs along observer view)
  plot_decided limits places timings merges named program inputs along observer view =
      wish_decided limits places timings merges named program inputs (option_map (λ a. a.1) along) (plot_wish program inputs along observer view)
