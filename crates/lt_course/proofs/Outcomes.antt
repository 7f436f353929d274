-- What reading a schedule file for a picture answers, whatever its events are.
use Rattle.std.proofs.Common.{◌≡◌, ◌<◌, ℕ, List, Option, Some, None, Result, Ok, Err, IsTrue, refl, sym, subst, arith, true, false}
use Rattle.std.specs.Prelude.{IsSome}
use Rattle.lt_base.specs.declared.memory.Or.{Or}
use Rattle.lt_base.specs.declared.memory.Or.TheVariants.{Fault, Memory}
use Rattle.lt_io.specs.FilesState.{FilesState, KeepsNames}
use Rattle.lt_io.specs.Visits.{Visited}
use Rattle.lt_io.proofs.Visiting.{visited_any}
use Rattle.lt_answer.specs.World.{KeepsWorld, alone}
use Rattle.lt_answer.specs.Answered.{Answered, OfFile, RefusesReading, Verdict}
use Rattle.lt_answer.proofs.Stages.{keeps_itself}
use Rattle.lt_schedule.specs.declared.halt.Halt.{Halt}
use Rattle.lt_schedule.specs.declared.halt.Halt.TheVariants as halt
use Rattle.lt_schedule.specs.declared.halt.ScheduleRefusal.{ScheduleRefusal}
use Rattle.lt_schedule.specs.declared.halt.ScheduleRefusal.TheVariants as refusal
use Rattle.lt_schedule.specs.Errand.{schedule_errand}
use Rattle.lt_schedule.specs.Halted.{UnlessFailed, ReadCounted, HaltCounted}
use Rattle.lt_schedule.specs.Replayed.{TakesFile, RefusesFile}
use Rattle.lt_schedule.specs.Rules.{Rules, file_judged_by}
use Rattle.lt_load_fit.specs.declared.fault.CommandFault.{CommandFault}
use Rattle.lt_load_fit.specs.declared.fault.CommandFault.TheVariants as fault
use Rattle.lt_load.specs.Blamed.{command_blame}
use Rattle.lt_tape.specs.declared.asked.Asked.{Asked}
use Rattle.lt_course.specs.declared.course.Course.{Course}
use Rattle.lt_course.specs.declared.course.Stopped.{Stopped}
use Rattle.lt_course.specs.Whole.{DrawnBy, IsCourseBy, WholeCourse, course_or_fault, drawn_verdict, halted_course, or_course, stopped_course}

keeps_alone : (a b : FilesState) → KeepsNames a b → KeepsWorld (alone a) (alone b)
keeps_alone a b keeps = record { files = keeps; fabric = (keeps_itself (alone a)).fabric; steady = λ sound. refl }

-- by a recorder that was kept
pub kept_course : {E : Type 0} (asked later : Asked) (whole after : List E → WholeCourse) (es : List E) (c : Course) → later ≡ asked → after ≡ whole → IsCourseBy later (after es) c → IsCourseBy asked (whole es) c
kept_course asked later whole after es c a w is = subst (λ (q : Asked). IsCourseBy q (whole es) c) a (subst (λ f. IsCourseBy later (f es) c) w is)

module _ {E : Type 0} (rules : Rules E Stopped) (asked : Asked) (whole : List E → WholeCourse) where
  module _ (file : Option (List ℕ)) (bytes : List ℕ) (is : file ≡ Some bytes) where
    on_bytes : (read : Result (List E) (ScheduleRefusal Stopped)) (o : Result Course CommandFault) → file_judged_by rules bytes ≡ read → DrawnBy asked whole read o → drawn_verdict rules asked whole file o
    unfolding drawn_verdict
    on_bytes read o reads right =
        subst (λ (f : Option (List ℕ)). OfFile fault.Read f (λ bytes outcome. DrawnBy asked whole (file_judged_by rules bytes) outcome) o) (sym is)
        (subst (λ (r : Result (List E) (ScheduleRefusal Stopped)). DrawnBy asked whole r o) (sym reads) right)

    refused_by : (refused : ScheduleRefusal Stopped) (o : Result Course CommandFault) → file_judged_by rules bytes ≡ Err refused → course_or_fault refused ≡ o → drawn_verdict rules asked whole file o
    refused_by refused o reads same = on_bytes (Err refused) o reads same

  missing : (before now : ℕ) (file : Option (List ℕ)) → (IsSome file → now ≡ before) → before < now → RefusesReading command_blame (drawn_verdict rules asked whole file)
  unfolding drawn_verdict
  missing before now None found rose = (fault.Read, refl, refl)
  missing before now (Some bytes) found rose = absurd (omega (arith, found refl, rose))

  module _ (old new : FilesState) (name : List ℕ) (keeps : KeepsNames old new) (visits : Visited (schedule_errand name) old.visits new.visits true) where
    abbrev Right : Verdict Course CommandFault
    Right = drawn_verdict rules asked whole (old.named name)

    -- all rows were taken
    module _ (P : (steps : ℕ) → List E → Type 0) (calm : new.faults ≡ old.faults) where
      pub took_all : (steps : ℕ) × TakesFile rules (P steps) old.told (old.named name) → (c : Course) → ((steps : ℕ) (es : List E) → P steps es → IsCourseBy asked (whole es) c) → Answered command_blame (schedule_errand name) Right (alone old) (alone new) (Ok c)
      took_all takes c right = record {
        keeps = keeps_alone old new keeps;
        visits = visits;
        cause = record { files = calm; fabric = refl };
        exact = λ told _.
            let reads = takes.1.reads told in
            on_bytes (old.named name) reads.bytes reads.file_is (Ok takes.1.events) (Ok c) reads.reads (right takes.0 takes.1.events takes.1.stands_for);
        sound = λ told sound rose. absurd (omega (arith, rose, calm));
      }

      pub took_short : (r : Result Course (Or CommandFault)) → r ≡ Err Memory → Answered command_blame (schedule_errand name) Right (alone old) (alone new) r
      took_short r is = subst (Answered command_blame (schedule_errand name) Right (alone old) (alone new)) (sym is) (record {
        keeps = keeps_alone old new keeps;
        visits = visited_any (schedule_errand name) old.visits new.visits false visits;
        cause = record { files = calm; fabric = refl };
        exact = λ told _. tt;
        sound = λ told sound rose. absurd (omega (arith, rose, calm));
      })

    module _ (found : IsTrue old.sound → IsSome (old.named name) → new.faults ≡ old.faults) (before now : ℕ) (steady : now ≡ before) where
      -- a row or an event was refused
      of_refused : (refused : ScheduleRefusal Stopped) → new.faults ≡ old.faults → (IsTrue old.told → RefusesFile rules (old.named name) new.place refused)
          → Answered command_blame (schedule_errand name) Right (alone old) (alone new) (or_course (course_or_fault refused))
      of_refused (refusal.Row row f) calm refuses = record {
        keeps = keeps_alone old new keeps;
        visits = visited_any (schedule_errand name) old.visits new.visits false visits;
        cause = record { files = calm; fabric = refl };
        exact = λ told _. let there = refuses told in refused_by (old.named name) there.bytes there.file_is (refusal.Row row f) (Err (fault.Row row f)) there.reads refl;
        sound = λ told sound rose. absurd (omega (arith, rose, calm));
      }
      of_refused (refusal.Offence event x) calm refuses = record {
        keeps = keeps_alone old new keeps;
        visits = visits;
        cause = record { files = calm; fabric = refl };
        exact = λ told _. let there = refuses told in refused_by (old.named name) there.bytes there.file_is (refusal.Offence event x) (Ok (stopped_course x)) there.reads refl;
        sound = λ told sound rose. absurd (omega (arith, rose, calm));
      }
      of_refused refusal.Bytes calm refuses = record {
        keeps = keeps_alone old new keeps;
        visits = visited_any (schedule_errand name) old.visits new.visits false visits;
        cause = record { files = calm; fabric = refl };
        exact = λ told _. let there = refuses told in refused_by (old.named name) there.bytes there.file_is refusal.Bytes (Err (fault.Limit _)) there.reads refl;
        sound = λ told sound rose. absurd (omega (arith, rose, calm));
      }

      -- not all rows were taken
      of_halt : (h : Or (Halt Stopped)) → ReadCounted {T = Unit {0}} old.faults new.faults (Err h) → HaltCounted {T = Unit {0}} before now (Err h)
          → UnlessFailed (λ r. IsTrue old.told → RefusesFile rules (old.named name) new.place r) h → Answered command_blame (schedule_errand name) Right (alone old) (alone new) (halted_course h)
      of_halt (Fault (halt.Refused r)) calm linked refuses = of_refused r calm refuses
      of_halt (Fault halt.Read) counted linked refuses = record {
        keeps = keeps_alone old new keeps;
        visits = visited_any (schedule_errand name) old.visits new.visits false visits;
        cause = (counted, refl);
        exact = λ told calm. absurd (let same = calm.files in omega (arith, counted, same));
        sound = λ told sound rose. missing old.faults new.faults (old.named name) (found sound) rose;
      }
      of_halt (Fault halt.Link) counted linked refuses = absurd (omega (arith, linked, steady))
      of_halt Memory calm linked refuses = record {
        keeps = keeps_alone old new keeps;
        visits = visited_any (schedule_errand name) old.visits new.visits false visits;
        cause = record { files = calm; fabric = refl };
        exact = λ told _. tt;
        sound = λ told sound rose. absurd (omega (arith, rose, calm));
      }

      pub halted : (h : Or (Halt Stopped)) (r : Result Course (Or CommandFault)) → r ≡ halted_course h → ReadCounted {T = Unit {0}} old.faults new.faults (Err h) → HaltCounted {T = Unit {0}} before now (Err h)
          → UnlessFailed (λ r. IsTrue old.told → RefusesFile rules (old.named name) new.place r) h → Answered command_blame (schedule_errand name) Right (alone old) (alone new) r
      halted h r is counted linked refuses = subst (Answered command_blame (schedule_errand name) Right (alone old) (alone new)) (sym is) (of_halt h counted linked refuses)
