-- From what was loaded to the text of a picture.
use Rattle.std.proofs.Common.{◌≡◌, ℕ, List, ◌++◌, Option, Result, Ok, Err, false, inl, inr, sym, subst}
use Rattle.std.specs.Prelude.{IsErrAnd}
use Rattle.lt_base.specs.declared.memory.Or.{Or}
use Rattle.lt_base.specs.declared.memory.Or.TheVariants.{Fault, Memory}
use Rattle.lt_io.specs.FilesState.{FilesState}
use Rattle.lt_io.specs.Visits.{Errand}
use Rattle.lt_io.proofs.Visiting.{visited_any}
use Rattle.lt_schedule.specs.Errand.{schedule_errand}
use Rattle.lt_answer.specs.World.{World, alone}
use Rattle.lt_answer.specs.Answered.{Answered, AndThen, Refuses, Verdict}
use Rattle.lt_answer.specs.Rules.{Shown}
use Rattle.lt_answer.proofs.Stages.{goes_on, renamed, stops, widened}
use Rattle.lt_load_fit.specs.declared.fault.CommandFault.{CommandFault}
use Rattle.lt_load.specs.Blamed.{command_blame}
use Rattle.lt_load.specs.Plan.{Plan}
use Rattle.lt_inspect.specs.declared.stage.Stage.{Stage}
use Rattle.lt_inspect.specs.Stages.{Staged}
use Rattle.lt_drawing.specs.declared.view.DrawView.{DrawView}
use Rattle.lt_drawing.specs.Drawn.{along_stage, plan_drawn}

module _ {T : Type 0} (shown : T → List ℕ) (V : Verdict T CommandFault) (a b : World) where
  refused_too : (e : Or CommandFault) → Refuses V e → Refuses (Shown shown V) e
  refused_too (Fault e) is = is
  refused_too Memory is = tt

  -- there is nothing to show
  pub not_shown : {es : List Errand} (e : Or CommandFault) (r : Result (List ℕ) (Or CommandFault)) → IsErrAnd r (λ f. f ≡ e) → Answered {T = T} command_blame es V a b (Err e) → Answered command_blame es (Shown shown V) a b r
  not_shown e (Ok text) is first = absurd is
  not_shown {es} e (Err f) is first = subst (λ (g : Or CommandFault). Answered {T = List ℕ} command_blame es (Shown shown V) a b (Err g)) (sym is) (record {
    keeps = first.keeps;
    visits = first.visits;
    cause = first.cause;
    exact = λ told calm. refused_too e (first.exact told calm);
    sound = first.sound;
  })

  -- its text
  pub is_shown : {es : List Errand} (x : T) (text : List ℕ) → text ≡ shown x → Answered command_blame es V a b (Ok x) → Answered command_blame es (Shown shown V) a b (Ok text)
  is_shown x text is first = record {
    keeps = first.keeps;
    visits = first.visits;
    cause = first.cause;
    exact = λ told calm. (x, first.exact told calm, is);
    sound = first.sound;
  }

  -- no memory was found for it
  pub short_shown : {es : List Errand} (x : T) → Answered command_blame es V a b (Ok x) → Answered {T = List ℕ} command_blame es (Shown shown V) a b (Err Memory)
  short_shown {es} x first = record {
    keeps = first.keeps;
    visits = visited_any es a.files.visits b.files.visits false first.visits;
    cause = first.cause;
    exact = λ told calm. tt;
    sound = first.sound;
  }

module _ (schedule config : List ℕ) (node : Option (List ℕ)) (view : DrawView) (V : Verdict Plan CommandFault) (a b : FilesState) where
  abbrev along : Stage → Result (List ℕ) CommandFault → Type 0
  along k = along_stage schedule config view k (a.named schedule)

  wider : (o : Result (List ℕ) CommandFault) → AndThen (Staged node V) along o → AndThen V (λ plan. plan_drawn schedule config node view (a.named schedule) plan) o
  wider (Ok text) (inl p) = absurd p
  wider (Err e) (inl p) = inl p
  wider (Ok text) (inr q) = inr (q.1.0, q.1.1, (q.0, q.1.2, q.2))
  wider (Err e) (inr q) = inr (q.1.0, q.1.1, (q.0, q.1.2, q.2))

  -- nothing was loaded
  pub not_staged : {es : List Errand} (e : Or CommandFault) (r : Result (List ℕ) (Or CommandFault)) → IsErrAnd r (λ f. f ≡ e) → Answered {T = Stage} command_blame es (Staged node V) (alone a) (alone b) (Err e)
      → Answered command_blame (es ++ schedule_errand schedule) (AndThen V (λ plan. plan_drawn schedule config node view (a.named schedule) plan)) (alone a) (alone b) r
  not_staged e (Ok text) is first = absurd is
  not_staged {es} e (Err f) is first =
      let stopped : Answered {T = List ℕ} command_blame (es ++ schedule_errand schedule) (AndThen (Staged node V) along) (alone a) (alone b) (Err e) = stops (schedule_errand schedule) (alone a) (alone b) e first in
      subst (λ (g : Or CommandFault). Answered {T = List ℕ} command_blame (es ++ schedule_errand schedule) (AndThen V (λ plan. plan_drawn schedule config node view (a.named schedule) plan)) (alone a) (alone b) (Err g)) (sym is)
      (widened (AndThen (Staged node V) along) (AndThen V (λ plan. plan_drawn schedule config node view (a.named schedule) plan)) (alone a) (alone b) (Err e) wider stopped)

  -- it was, and then drawn
  pub over_stage : {es : List Errand} (k : Stage) (c : FilesState) (r : Result (List ℕ) (Or CommandFault)) → Answered command_blame es (Staged node V) (alone a) (alone b) (Ok k)
      → Answered command_blame (schedule_errand schedule) (along_stage schedule config view k (b.named schedule)) (alone b) (alone c) r
      → Answered command_blame (es ++ schedule_errand schedule) (AndThen V (λ plan. plan_drawn schedule config node view (a.named schedule) plan)) (alone a) (alone c) r
  over_stage {es} k c r first second =
      let on : Answered command_blame (es ++ schedule_errand schedule) (AndThen (Staged node V) along) (alone a) (alone c) r =
      goes_on (alone a) (alone b) (alone c) k r first
      (renamed (λ names. along_stage schedule config view k (names schedule)) b.named a.named (alone b) (alone c) r first.keeps.files.named second) in
      widened (AndThen (Staged node V) along) (AndThen V (λ plan. plan_drawn schedule config node view (a.named schedule) plan)) (alone a) (alone c) r wider on
