-- A watched run leaves one refusal, up to its kind.
use Rattle.std.proofs.Common.{◌≡◌, ℕ, List, Option, Ok, Err, inl, inr, arith}
use Rattle.lt_base.specs.Program.{Function}
use Rattle.lt_answer.specs.World.{World}
use Rattle.lt_answer.specs.Answered.{AndThen}
use Rattle.lt_answer.proofs.Decided.{HasOneKind, HasOneOutcome, and_then, and_then_one, raised, raised_one}
use Rattle.lt_past.specs.declared.fault.ObserverFault.{ObserverFault}
use Rattle.lt_past.specs.Observer.{Observing}
use Rattle.lt_past.proofs.Observed.{not_both, one_observer}
use Rattle.lt_load_fit.specs.declared.fault.What.TheVariants.{ObserverBytes}
use Rattle.lt_load_fit.specs.Main.{main_in}
use Rattle.lt_load.specs.Loaded.{whole_verdict}
use Rattle.lt_load.specs.Plan.{Plan, load_verdict}
use Rattle.lt_load.proofs.OneLoad.{TellsLimits, whole_decided}
use Rattle.lt_load.proofs.OneCheck.{MergesPlaces, MergesTimings}
use Rattle.lt_load.proofs.OnePlan.{load_decided}
use Rattle.lt_load.specs.Near.{ReadNear}
use Rattle.lt_run.specs.Run.{run_along_verdict}
use Rattle.lt_run.proofs.OneRun.{along_decided}
use Rattle.lt_watch.specs.declared.fault.WatchFault.{WatchFault}
use Rattle.lt_watch.specs.declared.fault.WatchFault.TheVariants.{Command, Observer}
use Rattle.lt_watch.specs.declared.watched.Watched.{Watched}
use Rattle.lt_watch.specs.Watch.{InCommand, observer_bytes_verdict, observed_verdict, observer_verdict, told_verdict, followed_verdict, plan_watch_verdict, watch_verdict}

module _ {K : Type 0} (kind : WatchFault → K) where
  -- a kind that does not tell the faults of an observer apart
  abbrev pub MergesObservers : Type 0
  MergesObservers = (e f : ObserverFault) → kind (Observer e) ≡ kind (Observer f)

  bytes_decided : (file : Option (List ℕ)) → HasOneOutcome kind (observer_bytes_verdict file)
  bytes_decided file = raised_one (λ e. Command e) kind (whole_verdict ObserverBytes file) (whole_decided (λ e. kind (Command e)) ObserverBytes file)

  observed_decided : MergesObservers → (main : Function) (bytes : List ℕ) → HasOneOutcome (λ e. kind (Observer e)) (observed_verdict main bytes)
  observed_decided merges main bytes = record {
    faults = record { one_kind = λ e f p q. merges e f; not_both = λ e x p q. not_both main 200 bytes x e q p };
    one_value = λ x y p q. one_observer main 200 (omega arith) bytes x y p q;
  }

  pub observer_decided : MergesObservers → (main : Function) (file : Option (List ℕ)) → HasOneOutcome kind (observer_verdict main file)
  unfolding observer_verdict
  observer_decided merges main file =
      and_then_one kind (observer_bytes_verdict file) _ (bytes_decided file) (λ bytes. raised_one (λ e. Observer e) kind (observed_verdict main bytes) (observed_decided merges main bytes))

  module _ (schedule : Option (List ℕ)) (new : World) (plan : Plan) where
    near_decided : HasOneKind (λ e. kind (Command e)) (ReadNear schedule new.files.place (run_along_verdict new.fabric schedule plan))
    near_decided =
        let one = along_decided (λ e. kind (Command e)) new.fabric schedule plan in
        record { one_kind = λ e f p q. one.one_kind e f p.0 q.0; not_both = λ e x p q. one.not_both e x p.0 q }

    run_decided : HasOneKind kind (InCommand (ReadNear schedule new.files.place (run_along_verdict new.fabric schedule plan)))
    run_decided = raised (λ e. Command e) kind (ReadNear schedule new.files.place (run_along_verdict new.fabric schedule plan)) near_decided

    followed_decided : (o : Observing) → HasOneKind kind (followed_verdict schedule new plan o)
    unfolding followed_verdict
    followed_decided o = record { one_kind = one_kind; not_both = both }
      where
        one_kind : (e f : WatchFault) → followed_verdict schedule new plan o (Err e) → followed_verdict schedule new plan o (Err f) → kind e ≡ kind f
        one_kind e f (inl p) (inl q) = run_decided.one_kind e f p q
        one_kind e f (inr p) q = absurd p.2
        one_kind e f p (inr q) = absurd q.2

        both : (e : WatchFault) (x : Watched) → followed_verdict schedule new plan o (Err e) → followed_verdict schedule new plan o (Ok x) → ⊥
        both e x p (inl q) = q
        both e x (inl p) (inr q) = run_decided.not_both e q.0 p q.1
        both e x (inr p) q = p.2

  plan_decided : MergesObservers → (named : List ℕ → Option (List ℕ)) (schedule observer : List ℕ) (new : World) (plan : Plan) → HasOneKind kind (plan_watch_verdict named schedule observer new plan)
  unfolding plan_watch_verdict
  plan_decided merges named schedule observer new plan =
      and_then kind (observer_verdict (main_in plan.checked.program) (named observer)) (λ o. followed_verdict (named schedule) new plan o) (observer_decided merges (main_in plan.checked.program) (named observer)) (λ o. followed_decided (named schedule) new plan o)

  -- right refusals are of one kind, and then nothing is right to tell
  pub watch_decided : TellsLimits (λ e. kind (Command e)) → MergesPlaces (λ e. kind (Command e)) → MergesTimings (λ e. kind (Command e)) → MergesObservers → (named : List ℕ → Option (List ℕ)) (program inputs schedule observer : List ℕ) (config : Option (List ℕ)) (new : World)
      → HasOneKind kind (watch_verdict named program inputs schedule observer config new)
  unfolding watch_verdict
  watch_decided along places timings merges named program inputs schedule observer config new =
      and_then kind (InCommand (load_verdict named program inputs config)) (λ plan. plan_watch_verdict named schedule observer new plan)
      (raised_one (λ e. Command e) kind (load_verdict named program inputs config) (load_decided (λ e. kind (Command e)) along places timings named program inputs config)) (λ plan. plan_decided merges named schedule observer new plan)
