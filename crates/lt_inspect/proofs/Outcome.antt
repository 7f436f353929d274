-- What taking a schedule file answers.
use Rattle.std.proofs.Common.{◌≡◌, ◌∙◌, ◌<◌, ℕ, List, Option, Some, None, Result, Ok, Err, IsTrue, refl, sym, ap, subst, arith, true, false}
use Rattle.std.specs.Prelude.{IsSome}
use Rattle.lt_base.specs.declared.memory.Or.{Or}
use Rattle.lt_base.specs.declared.memory.Or.TheVariants.{Fault, Memory}
use Rattle.lt_io.specs.FilesState.{FilesState, KeepsNames}
use Rattle.lt_arch.specs.declared.event.Event.{Event}
use Rattle.lt_arch.specs.declared.event.Offence as arch
use Rattle.lt_arch.specs.declared.shape.Shape.{Shape}
use Rattle.lt_arch.specs.declared.timing.Timing.{Timing}
use Rattle.lt_answer.specs.World.{KeepsWorld, Content, Blames, alone}
use Rattle.lt_io.specs.Visits.{Errand, Visited}
use Rattle.lt_schedule.specs.Errand.{schedule_errand}
use Rattle.lt_answer.specs.Answered.{Answered, OfFile, RefusesReading, Verdict}
use Rattle.lt_answer.proofs.Stages.{keeps_itself}
use Rattle.lt_answer.specs.Rules.{Raised}
use Rattle.lt_schedule.specs.declared.halt.Halt.{Halt}
use Rattle.lt_schedule.specs.declared.halt.Halt.TheVariants as halt
use Rattle.lt_schedule.specs.declared.halt.ScheduleRefusal.{ScheduleRefusal}
use Rattle.lt_schedule.specs.declared.halt.ScheduleRefusal.TheVariants as refusal
use Rattle.lt_schedule.specs.declared.fault.ScheduleFault.{ScheduleFault}
use Rattle.lt_schedule.specs.declared.fault.ScheduleFault.TheVariants as schedule
use Rattle.lt_schedule.specs.Halted.{UnlessFailed, ReadCounted, HaltCounted}
use Rattle.lt_schedule.specs.Replayed.{TakesFile, RefusesFile}
use Rattle.lt_schedule.specs.Verdict.{rules_of, schedule_fault_of, or_fault, verdict}
use Rattle.lt_load_fit.specs.declared.fault.CommandFault.{CommandFault}
use Rattle.lt_load_fit.specs.declared.fault.CommandFault.TheVariants as fault
use Rattle.lt_load.specs.Blamed.{command_blame}
use Rattle.lt_inspect.specs.Inspected.{InspectionEndsWith, inspect_file_verdict, schedule_command_fault}
use Rattle.lt_inspect.specs.Inspecting.{AsFault}

keeps_alone : (a b : FilesState) → KeepsNames a b → KeepsWorld (alone a) (alone b)
keeps_alone a b keeps = record { files = keeps; fabric = (keeps_itself (alone a)).fabric; steady = λ sound. refl }

content : (s : Shape) (refused : ScheduleRefusal arch.Offence) → command_blame (schedule_command_fault s (schedule_fault_of refused)) ≡ Content
content s (refusal.Row row f) = refl
content s (refusal.Offence event offence) = refl
content s refusal.Bytes = refl

module _ (s : Shape) (t : Timing) (rows : ℕ) (end : List Event → Unit {0} → Type 0) (file : Option (List ℕ)) where
  right : (bytes : List ℕ) (events : List Event) → file ≡ Some bytes → verdict s t rows bytes ≡ Ok events → end events tt → inspect_file_verdict end s t rows file (Ok tt)
  unfolding inspect_file_verdict
  right bytes events is reads ends =
      subst (λ (f : Option (List ℕ)). OfFile schedule.Read f (λ bytes outcome. InspectionEndsWith end (verdict s t rows bytes) outcome) (Ok tt)) (sym is)
      (subst (λ (r : Result (List Event) ScheduleFault). InspectionEndsWith end r (Ok tt)) (sym reads) ends)

  wrong : (bytes : List ℕ) (f : ScheduleFault) → file ≡ Some bytes → verdict s t rows bytes ≡ Err f → inspect_file_verdict end s t rows file (Err f)
  unfolding inspect_file_verdict
  wrong bytes f is reads =
      subst (λ (x : Option (List ℕ)). OfFile schedule.Read x (λ bytes outcome. InspectionEndsWith end (verdict s t rows bytes) outcome) (Err f)) (sym is)
      (subst (λ (r : Result (List Event) ScheduleFault). InspectionEndsWith {T = Unit {0}} end r (Err f)) (sym reads) refl)

missing : (s : Shape) (t : Timing) (rows : ℕ) (end : List Event → Unit {0} → Type 0) (before now : ℕ) (file : Option (List ℕ)) → (IsSome file → now ≡ before) → before < now
    → RefusesReading command_blame (Raised (schedule_command_fault s) (inspect_file_verdict end s t rows file))
unfolding inspect_file_verdict
missing s t rows end before now None found rose = (fault.Read, refl, (schedule.Read, refl, refl))
missing s t rows end before now (Some bytes) found rose = absurd (omega (arith, found refl, rose))

module _ (s : Shape) (t : Timing) (rows : ℕ) (end : List Event → Unit {0} → Type 0) (old new : FilesState) (name : List ℕ) (keeps : KeepsNames old new) where
  abbrev Right : Verdict (Unit {0}) CommandFault
  Right = Raised (schedule_command_fault s) (inspect_file_verdict end s t rows (old.named name))

  -- all rows were taken
  pub took : Visited (schedule_errand name) old.visits new.visits true → new.faults ≡ old.faults → (steps : ℕ) × TakesFile (rules_of s t rows) (λ events. end events tt) old.told (old.named name) → Answered command_blame (schedule_errand name) Right (alone old) (alone new) (Ok tt)
  took visits calm takes = record {
    keeps = keeps_alone old new keeps;
    visits = visits;
    cause = record { files = calm; fabric = refl };
    exact = λ told _.
        let reads = takes.1.reads told in
        right s t rows end (old.named name) reads.bytes takes.1.events reads.file_is (ap or_fault reads.reads) takes.1.stands_for;
    sound = λ told sound rose. absurd (omega (arith, rose, calm));
  }

  refused : (refused : ScheduleRefusal arch.Offence) (place : ℕ) (e : CommandFault) → e ≡ schedule_command_fault s (schedule_fault_of refused) → RefusesFile (rules_of s t rows) (old.named name) place refused → Right (Err e)
  refused r place e is refuses = (schedule_fault_of r, wrong s t rows end (old.named name) refuses.bytes (schedule_fault_of r) refuses.file_is (ap or_fault refuses.reads), is)

  -- they were not
  pub halted : (h : Or (Halt arch.Offence)) (e : Or CommandFault) → AsFault s h e → Visited (schedule_errand name) old.visits new.visits false → ReadCounted {T = Unit {0}} old.faults new.faults (Err h) → HaltCounted {T = Unit {0}} 0 0 (Err h) → (IsTrue old.sound → IsSome (old.named name) → new.faults ≡ old.faults)
      → UnlessFailed (λ r. IsTrue old.told → RefusesFile (rules_of s t rows) (old.named name) new.place r) h → Answered {T = Unit {0}} command_blame (schedule_errand name) Right (alone old) (alone new) (Err e)
  halted (Fault (halt.Refused r)) (Fault e) is visits calm linked found refuses = record {
    keeps = keeps_alone old new keeps;
    visits = visits;
    cause = subst (Blames (alone old) (alone new)) (sym (ap command_blame is ∙ content s r)) (record { files = calm; fabric = refl });
    exact = λ told _. refused r new.place e is (refuses told);
    sound = λ told sound rose. absurd (omega (arith, rose, calm));
  }
  halted (Fault (halt.Refused r)) Memory is visits calm linked found refuses =
      record { keeps = keeps_alone old new keeps; visits = visits; cause = record { files = calm; fabric = refl }; exact = λ told _. tt; sound = λ told sound rose. absurd (omega (arith, rose, calm)) }
  halted (Fault halt.Read) (Fault e) is visits counted linked found refuses = record {
    keeps = keeps_alone old new keeps;
    visits = visits;
    cause = subst (Blames (alone old) (alone new)) (sym (ap command_blame is)) (counted, refl);
    exact = λ told calm. absurd (let same = calm.files in omega (arith, counted, same));
    sound = λ told sound rose. missing s t rows end old.faults new.faults (old.named name) (found sound) rose;
  }
  halted (Fault halt.Read) Memory is visits counted linked found refuses = absurd is
  halted (Fault halt.Link) e is visits counted linked found refuses = absurd (omega (arith, linked))
  halted Memory (Fault e) is visits counted linked found refuses = absurd is
  halted Memory Memory is visits calm linked found refuses =
      record { keeps = keeps_alone old new keeps; visits = visits; cause = record { files = calm; fabric = refl }; exact = λ told _. tt; sound = λ told sound rose. absurd (omega (arith, rose, calm)) }

-- the same over an equal shape and timing, and as many rows
pub over_equals : {es : List Errand} (s s' : Shape) (t t' : Timing) (rows rows' : ℕ) → s ≡ s' → t ≡ t' → rows ≡ rows' → {T : Type 0} → (end : List Event → T → Type 0) (a b : FilesState) (file : Option (List ℕ)) (r : Result T (Or CommandFault)) →
    Answered command_blame es (Raised (schedule_command_fault s) (inspect_file_verdict end s t rows file)) (alone a) (alone b) r → Answered command_blame es (Raised (schedule_command_fault s') (inspect_file_verdict end s' t' rows' file)) (alone a) (alone b) r
over_equals {es} s s' t t' rows rows' same_shape same_timing same_rows {T} end a b file r answered =
    subst (λ (q : Shape). Answered command_blame es (Raised (schedule_command_fault q) (inspect_file_verdict end q t' rows' file)) (alone a) (alone b) r) same_shape
    (subst (λ (q : Timing). Answered command_blame es (Raised (schedule_command_fault s) (inspect_file_verdict end s q rows' file)) (alone a) (alone b) r) same_timing
    (subst (λ (q : ℕ). Answered command_blame es (Raised (schedule_command_fault s) (inspect_file_verdict end s t q file)) (alone a) (alone b) r) same_rows answered))
