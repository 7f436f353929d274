-- From what was loaded to what is told of a schedule.
use Rattle.std.proofs.Common.{◌≡◌, ℕ, List, Option, Result, Ok, Err, inl, inr, sym, subst, ◌++◌}
use Rattle.std.specs.Prelude.{IsErrAnd}
use Rattle.lt_base.specs.declared.memory.Or.{Or}
use Rattle.lt_io.specs.FilesState.{FilesState}
use Rattle.lt_arch.specs.declared.event.Event.{Event}
use Rattle.lt_answer.specs.World.{alone}
use Rattle.lt_io.specs.Visits.{Errand}
use Rattle.lt_schedule.specs.Errand.{schedule_errand}
use Rattle.lt_answer.specs.Answered.{Answered, Verdict, AndThen}
use Rattle.lt_answer.proofs.Stages.{goes_on, stops, widened, renamed}
use Rattle.lt_load_fit.specs.declared.fault.CommandFault.{CommandFault}
use Rattle.lt_load.specs.Blamed.{command_blame}
use Rattle.lt_load.specs.Plan.{Plan}
use Rattle.lt_inspect.specs.declared.scene.Scene.{Scene}
use Rattle.lt_inspect.specs.Scenes.{Scened}
use Rattle.lt_inspect.specs.Inspected.{along_scene, inspect_along_verdict}

module _ {T : Type 0} (end : Scene → List Event → T → Type 0) (node : Option (List ℕ)) (V : Verdict Plan CommandFault) (schedule : List ℕ) (a b : FilesState) where
  wider : (o : Result T CommandFault) → AndThen (Scened node V) (λ k. along_scene (end k) k (a.named schedule)) o → AndThen V (λ plan. inspect_along_verdict end node (a.named schedule) plan) o
  wider (Ok x) (inl p) = absurd p
  wider (Err e) (inl p) = inl p
  wider (Ok x) (inr q) = inr (q.1.0, q.1.1, (q.0, q.1.2, q.2))
  wider (Err e) (inr q) = inr (q.1.0, q.1.1, (q.0, q.1.2, q.2))

  -- nothing was loaded
  pub no_scene : {es : List Errand} (e : Or CommandFault) (r : Result T (Or CommandFault)) → IsErrAnd r (λ f. f ≡ e) → Answered {T = Scene} command_blame es (Scened node V) (alone a) (alone b) (Err e)
      → Answered command_blame (es ++ schedule_errand schedule) (AndThen V (λ plan. inspect_along_verdict end node (a.named schedule) plan)) (alone a) (alone b) r
  no_scene e (Ok x) is first = absurd is
  no_scene {es} e (Err f) is first =
      let stopped : Answered {T = T} command_blame (es ++ schedule_errand schedule) (AndThen (Scened node V) (λ k. along_scene (end k) k (a.named schedule))) (alone a) (alone b) (Err e) = stops (schedule_errand schedule) (alone a) (alone b) e first in
      subst (λ (g : Or CommandFault). Answered {T = T} command_blame (es ++ schedule_errand schedule) (AndThen V (λ plan. inspect_along_verdict end node (a.named schedule) plan)) (alone a) (alone b) (Err g)) (sym is)
      (widened (AndThen (Scened node V) (λ k. along_scene (end k) k (a.named schedule))) (AndThen V (λ plan. inspect_along_verdict end node (a.named schedule) plan)) (alone a) (alone b) (Err e) wider stopped)

  -- it was, and then judged
  pub over_scene : {es : List Errand} (k : Scene) (c : FilesState) (r : Result T (Or CommandFault)) → Answered command_blame es (Scened node V) (alone a) (alone b) (Ok k)
      → Answered command_blame (schedule_errand schedule) (along_scene (end k) k (b.named schedule)) (alone b) (alone c) r
      → Answered command_blame (es ++ schedule_errand schedule) (AndThen V (λ plan. inspect_along_verdict end node (a.named schedule) plan)) (alone a) (alone c) r
  over_scene {es} k c r first second =
      let on : Answered command_blame (es ++ schedule_errand schedule) (AndThen (Scened node V) (λ k. along_scene (end k) k (a.named schedule))) (alone a) (alone c) r =
      goes_on (alone a) (alone b) (alone c) k r first
      (renamed (λ names. along_scene (end k) k (names schedule)) b.named a.named (alone b) (alone c) r first.keeps.files.named second) in
      widened (AndThen (Scened node V) (λ k. along_scene (end k) k (a.named schedule))) (AndThen V (λ plan. inspect_along_verdict end node (a.named schedule) plan)) (alone a) (alone c) r wider on
