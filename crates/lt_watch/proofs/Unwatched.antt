-- What is refused is not watched.
use Rattle.std.proofs.Common.{◌≡◌, ℕ, List, Option, Ok, Err, refl, sym, subst, inl, inr}
use Rattle.std.specs.Prelude.{IsTrue}
use Rattle.lt_base.specs.Program.{Function}
use Rattle.lt_io.specs.FilesState.{FilesState}
use Rattle.lt_answer.specs.World.{alone}
use Rattle.lt_answer.specs.Answered.{Answered}
use Rattle.lt_front.specs.Examined.{ExaminedText}
use Rattle.lt_past.specs.Observer.{Observing}
use Rattle.lt_load_fit.specs.Main.{main_in}
use Rattle.lt_load.specs.Errands.{load_errands}
use Rattle.lt_load.specs.Plan.{Plan, LoadedPlan, Loads, load_verdict}
use Rattle.lt_run.proofs.Unloaded.{one_plan}
use Rattle.lt_watch.specs.declared.fault.WatchFault.{WatchFault}
use Rattle.lt_watch.specs.Blamed.{watch_blame}
use Rattle.lt_watch.specs.Errands.{observer_errand}
use Rattle.lt_watch.specs.Watch.{InCommand, observer_verdict, observed_load_verdict}
use Rattle.lt_watch.proofs.OneWatch.{observer_decided}

-- no refusal is told from another
any_kind : WatchFault → Unit {0}
any_kind e = tt

-- an observer that is there is not refused
pub not_observed : (main : Function) (observer : List ℕ) (a b : FilesState) (o : Observing) → Answered watch_blame (observer_errand observer) (observer_verdict main (a.named observer)) (alone a) (alone b) (Ok o)
    → IsTrue a.told → (e : WatchFault) → observer_verdict main (a.named observer) (Err e) → ⊥
not_observed main observer a b o first told e refused = (observer_decided any_kind (λ e f. refl) main (a.named observer)).faults.not_both e o refused (first.exact told first.cause)

-- where all else is loaded, it is the observer that is refused
pub observer_refused : (program inputs observer : List ℕ) (config : Option (List ℕ)) (a b : FilesState) (k : LoadedPlan) → Answered watch_blame (load_errands program inputs config) (InCommand (Loads (load_verdict a.named program inputs config))) (alone a) (alone b) (Ok k)
    → IsTrue a.told → (e : WatchFault) → observed_load_verdict a.named program inputs observer config (Err e) → observer_verdict (main_in k.checked.program) (a.named observer) (Err e)
unfolding observed_load_verdict
observer_refused program inputs observer config a b k first told e (inl p) =
    let right = first.exact told first.cause in
    absurd ((one_plan a.named program inputs config).faults.not_both p.0 right.0 p.1 right.1)
observer_refused program inputs observer config a b k first told e (inr q) =
    let right = first.exact told first.cause in
    let same : q.0 ≡ right.0 = (one_plan a.named program inputs config).one_value q.0 right.0 q.1 right.1 in
    let known = subst (λ (p : Plan). observer_verdict (main_in p.checked.program) (a.named observer) (Err e)) same q.2 in
    subst (λ (x : ExaminedText). observer_verdict (main_in x.program) (a.named observer) (Err e)) (sym right.2.checked) known
