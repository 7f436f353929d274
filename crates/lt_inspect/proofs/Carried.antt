-- What is right of a schedule's events, carried over to what is told of them.
use Rattle.std.proofs.Common.{◌≡◌, ℕ, List, Option, Some, None, Result, Ok, Err, refl, sym, ap, subst, false}
use Rattle.std.specs.Prelude.{IsErrAnd}
use Rattle.lt_base.specs.declared.memory.Or.{Or}
use Rattle.lt_base.specs.declared.memory.Or.TheVariants.{Fault, Memory}
use Rattle.lt_arch.specs.declared.event.Event.{Event}
use Rattle.lt_arch.specs.declared.shape.Shape.{Shape}
use Rattle.lt_arch.specs.declared.timing.Timing.{Timing}
use Rattle.lt_answer.specs.World.{World, Blames, Content}
use Rattle.lt_io.specs.Visits.{Errand}
use Rattle.lt_io.proofs.Visiting.{visited_any}
use Rattle.lt_answer.specs.Answered.{Answered, Verdict}
use Rattle.lt_answer.specs.Rules.{Raised}
use Rattle.lt_schedule.specs.declared.fault.ScheduleFault.{ScheduleFault}
use Rattle.lt_schedule.specs.declared.fault.ScheduleFault.TheVariants as schedule
use Rattle.lt_schedule.specs.Verdict.{verdict}
use Rattle.lt_load_fit.specs.declared.fault.CommandFault.{CommandFault}
use Rattle.lt_load.specs.Blamed.{command_blame}
use Rattle.lt_inspect.specs.Inspected.{InspectionEndsWith, inspect_file_verdict, schedule_command_fault}

module _ {T : Type 0} (s : Shape) (t : Timing) (rows : ℕ) (before : List Event → Unit {0} → Type 0) (end : List Event → T → Type 0) where
  ends_by : (x : T) (read : Result (List Event) ScheduleFault) → ((events : List Event) → read ≡ Ok events → before events tt → end events x) → InspectionEndsWith before read (Ok tt) → InspectionEndsWith end read (Ok x)
  ends_by x (Ok events) carry is = carry events refl is
  ends_by x (Err f) carry is = cc

  pub ends_on : (x : T) (file : Option (List ℕ)) → ((bytes : List ℕ) (events : List Event) → verdict s t rows bytes ≡ Ok events → before events tt → end events x) → inspect_file_verdict before s t rows file (Ok tt) → inspect_file_verdict end s t rows file (Ok x)
  unfolding inspect_file_verdict
  ends_on x None carry is = cc
  ends_on x (Some bytes) carry is = ends_by x (verdict s t rows bytes) (carry bytes) is

  refused_by : (f : ScheduleFault) (read : Result (List Event) ScheduleFault) → InspectionEndsWith before read (Err f) → InspectionEndsWith end read (Err f)
  refused_by f (Ok events) is = is
  refused_by f (Err g) is = let same : f ≡ g = cc in ap (λ (h : ScheduleFault). Err h) same

  pub refused_on : (f : ScheduleFault) (file : Option (List ℕ)) → inspect_file_verdict before s t rows file (Err f) → inspect_file_verdict end s t rows file (Err f)
  unfolding inspect_file_verdict
  refused_on f None is = let same : f ≡ schedule.Read = cc in ap (λ (h : ScheduleFault). Err h) same
  refused_on f (Some bytes) is = refused_by f (verdict s t rows bytes) is

  -- no events that a fact excludes
  pub none_by : (file : Option (List ℕ)) → ((bytes : List ℕ) (events : List Event) → verdict s t rows bytes ≡ Ok events → before events tt → ⊥) → inspect_file_verdict before s t rows file (Ok tt) → ⊥
  unfolding inspect_file_verdict
  none_by None carry is = cc
  none_by (Some bytes) carry is = by (verdict s t rows bytes) (carry bytes) is
    where
      by : (read : Result (List Event) ScheduleFault) → ((events : List Event) → read ≡ Ok events → before events tt → ⊥) → InspectionEndsWith before read (Ok tt) → ⊥
      by (Ok events) carry is = carry events refl is
      by (Err f) carry is = cc

  module _ (file : Option (List ℕ)) (a b : World) where
    abbrev V : Verdict (Unit {0}) CommandFault
    V = Raised (schedule_command_fault s) (inspect_file_verdict before s t rows file)

    abbrev W : Verdict T CommandFault
    W = Raised (schedule_command_fault s) (inspect_file_verdict end s t rows file)

    wrong_too : (e : CommandFault) → V (Err e) → W (Err e)
    wrong_too e is = (is.0, refused_on is.0 file is.1, is.2)

    -- what is told of events that were taken
    pub told_on : {es : List Errand} (x : T) → ((bytes : List ℕ) (events : List Event) → verdict s t rows bytes ≡ Ok events → before events tt → end events x) → Answered command_blame es V a b (Ok tt) → Answered command_blame es W a b (Ok x)
    told_on x carry first = record {
      keeps = first.keeps;
      visits = first.visits;
      cause = first.cause;
      exact = λ told calm. ends_on x file carry (first.exact told calm);
      sound = λ told sound rose. let reading = first.sound told sound rose in (reading.0, reading.1, wrong_too reading.0 reading.2);
    }

    -- they were refused
    pub halted_on : {es : List Errand} (e : Or CommandFault) → Answered {T = Unit {0}} command_blame es V a b (Err e) → Answered {T = T} command_blame es W a b (Err e)
    halted_on (Fault e) first = record {
      keeps = first.keeps;
      visits = first.visits;
      cause = first.cause;
      exact = λ told calm. wrong_too e (first.exact told calm);
      sound = λ told sound rose. let reading = first.sound told sound rose in (reading.0, reading.1, wrong_too reading.0 reading.2);
    }
    halted_on Memory first = record {
      keeps = first.keeps;
      visits = first.visits;
      cause = first.cause;
      exact = λ told calm. tt;
      sound = λ told sound rose. let reading = first.sound told sound rose in (reading.0, reading.1, wrong_too reading.0 reading.2);
    }

    pub halted_as : {es : List Errand} (e : Or CommandFault) (r : Result T (Or CommandFault)) → IsErrAnd r (λ f. f ≡ e) → Answered {T = Unit {0}} command_blame es V a b (Err e) → Answered command_blame es W a b r
    halted_as e (Ok x) is first = absurd is
    halted_as {es} e (Err f) is first = subst (λ (g : Or CommandFault). Answered {T = T} command_blame es W a b (Err g)) (sym is) (halted_on e first)

    -- no memory was found after they were taken
    pub short_on : {es : List Errand} → Answered command_blame es V a b (Ok tt) → Answered {T = T} command_blame es W a b (Err Memory)
    short_on {es} first = record {
      keeps = first.keeps;
      visits = visited_any es a.files.visits b.files.visits false first.visits;
      cause = first.cause;
      exact = λ told calm. tt;
      sound = λ told sound rose. let reading = first.sound told sound rose in (reading.0, reading.1, wrong_too reading.0 reading.2);
    }

    -- a refusal that no file that tells its bytes comes to
    pub unreached : {es : List Errand} (e : CommandFault) → command_blame e ≡ Content → ((bytes : List ℕ) (events : List Event) → verdict s t rows bytes ≡ Ok events → before events tt → ⊥) → Answered command_blame es V a b (Ok tt) → Answered {T = T} command_blame es W a b (Err (Fault e))
    unreached {es} e content never first = record {
      keeps = first.keeps;
      visits = visited_any es a.files.visits b.files.visits false first.visits;
      cause = subst (Blames a b) (sym content) first.cause;
      exact = λ told calm. absurd (none_by file never (first.exact told calm));
      sound = λ told sound rose. let reading = first.sound told sound rose in (reading.0, reading.1, wrong_too reading.0 reading.2);
    }
