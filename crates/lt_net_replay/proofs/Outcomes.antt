-- What a play answers.
use Rattle.std.proofs.Common.{◌≡◌, ◌<◌, ℕ, false, List, Option, Some, None, Result, Ok, Err, IsTrue, refl, sym, subst, arith}
use Rattle.std.specs.Prelude.{IsSome, MatchResult, is_ok}
use Rattle.lt_base.specs.declared.value.Value.{Value}
use Rattle.lt_base.specs.declared.memory.Or.{Or}
use Rattle.lt_base.specs.declared.memory.Or.TheVariants.{Fault, Memory}
use Rattle.lt_arch.specs.declared.event.Event.{Event}
use Rattle.lt_arch.specs.declared.event.Offence as arch
use Rattle.lt_io.specs.FilesState.{FilesState, KeepsNames}
use Rattle.lt_io.specs.Visits.{Visited}
use Rattle.lt_io.specs.FabricState.{FabricState}
use Rattle.lt_io.proofs.Keeps.{promises_kept}
use Rattle.lt_answer.specs.World.{KeepsWorld, world}
use Rattle.lt_answer.specs.Answered.{OfFile, Verdict, RefusesReading}
use Rattle.lt_schedule.specs.declared.halt.ScheduleRefusal.{ScheduleRefusal}
use Rattle.lt_schedule.specs.declared.halt.Halt.{Halt}
use Rattle.lt_schedule.specs.Halted.{UnlessFailed, ReadCounted, HaltCounted, IsMemoryHalt}
use Rattle.lt_schedule.specs.Rules.{file_judged_by}
use Rattle.lt_schedule.specs.Replayed.{TakesFile, RefusesFile}
use Rattle.lt_schedule.specs.Errand.{schedule_errand}
use Rattle.lt_schedule.specs.Verdict.{rules_of}
use Rattle.lt_net.specs.NetModel.{NetState}
use Rattle.lt_schedule.specs.declared.halt.Halt.TheVariants.{Refused, Read, Link}
use Rattle.lt_net_start.specs.Blamed.{ReplayEndsWith, play_blame, IsNearPlay}
use Rattle.lt_net_replay.specs.Plays.{Plays, KeepsPlay}
use Rattle.lt_net_replay.specs.Played.{IsAtEnd, AtEndOf, play_verdict, HasPlayed}
use Rattle.lt_net_start.proofs.Onward.{stands_too}
use Rattle.lt_net_replay.proofs.AtEnd.{at_end}
use Rattle.lt_machine.specs.declared.machine.Machine.{Ghosts as Machines}
use Rattle.lt_arch.specs.declared.controller.Controller.{Ghosts as Controls}

module _ {C M : Type 0} (ctl : Controls C) (mch : Machines M) (old new : NetState C M) (inputs later : List (List Value)) (name : List ℕ) (files files' : FilesState) (fabric fabric' : FabricState)
    (keeps_files : KeepsNames files files') (keeps : KeepsPlay mch.size old new inputs later fabric fabric') where
  abbrev ends_at : List Event → Type 0
  ends_at = IsAtEnd ctl mch old new inputs fabric'

  abbrev right_of : Option (List ℕ) → Verdict (Unit {0}) (Halt arch.Offence)
  right_of file = play_verdict ends_at old.bench.shape old.bench.timing old.bench.rows file

  abbrev Taken : ℕ → Type 0
  Taken steps = TakesFile (rules_of old.bench.shape old.bench.timing old.bench.rows) (λ before. Plays ctl mch later before steps new fabric') files.told (files.named name)

  abbrev RefusedBy : ScheduleRefusal arch.Offence → Type 0
  RefusedBy refused = RefusesFile (rules_of old.bench.shape old.bench.timing old.bench.rows) (files.named name) files'.place refused

  keeps_world : KeepsWorld (world files fabric) (world files' fabric')
  keeps_world = record { files = keeps_files; fabric = promises_kept fabric fabric' keeps.fabric_kept; steady = keeps.steady }

  ended : (steps : ℕ) (takes : Taken steps) → ends_at takes.events
  ended steps takes = at_end ctl mch old new inputs later fabric fabric' keeps takes.events steps takes.stands_for takes.stops

  right : (steps : ℕ) (takes : Taken steps) → IsTrue files.told → right_of (files.named name) (Ok tt)
  unfolding play_verdict
  right steps takes told =
      let reads = takes.reads told in
      subst (λ (file : Option (List ℕ)). OfFile Read file (λ bytes outcome. ReplayEndsWith (AtEndOf ends_at) (file_judged_by (rules_of old.bench.shape old.bench.timing old.bench.rows) bytes) outcome) (Ok tt)) (sym reads.file_is)
      (subst (λ v. ReplayEndsWith (AtEndOf ends_at) v (Ok tt)) (sym reads.reads) (ended steps takes))

  wrong : (refused : ScheduleRefusal arch.Offence) → RefusedBy refused → right_of (files.named name) (Err (Refused refused))
  unfolding play_verdict
  wrong refused refuses =
      subst (λ (file : Option (List ℕ)). OfFile Read file (λ bytes outcome. ReplayEndsWith (AtEndOf ends_at) (file_judged_by (rules_of old.bench.shape old.bench.timing old.bench.rows) bytes) outcome) (Err (Refused refused))) (sym refuses.file_is)
      (subst (λ v. ReplayEndsWith (AtEndOf ends_at) v (Err (Refused refused))) (sym refuses.reads) refl)

  missing : (file : Option (List ℕ)) → (IsSome file → files'.faults ≡ files.faults) → files.faults < files'.faults → RefusesReading play_blame (right_of file)
  unfolding play_verdict
  missing None found rose = (Read, refl, refl)
  missing (Some bytes) found rose = absurd (omega (arith, found refl, rose))

  near : (refused : ScheduleRefusal arch.Offence) → RefusedBy refused → IsNearPlay (files.named name) files'.place (Fault (Refused refused))
  near refused refuses = subst (λ (file : Option (List ℕ)). IsNearPlay file files'.place (Fault (Refused refused))) (sym refuses.file_is) refuses.near

  refused_play : (refused : ScheduleRefusal arch.Offence) → Visited (schedule_errand name) files.visits files'.visits false → files'.faults ≡ files.faults → fabric'.faults ≡ fabric.faults → (IsTrue files.told → RefusedBy refused)
      → HasPlayed ctl mch old new inputs later name files files' fabric fabric' (Err (Fault (Refused refused)))
  refused_play refused visits calm link_calm refuses = record {
    answered = record {
      keeps = keeps_world;
      visits = visits;
      cause = record { files = calm; fabric = link_calm };
      exact = λ told _. wrong refused (refuses told);
      sound = λ told sound rose. absurd (omega (arith, rose, calm));
    };
    ended = tt;
    near = λ told. near refused (refuses told);
    prompt = λ prompt is. is;
    keeps = keeps;
  }

  pub played : (r : Result (Unit {0}) (Or (Halt arch.Offence))) → Visited (schedule_errand name) files.visits files'.visits (is_ok r) → ReadCounted files.faults files'.faults r → HaltCounted fabric.faults fabric'.faults r
      → (IsTrue files.sound → IsSome (files.named name) → files'.faults ≡ files.faults) → (IsTrue fabric.prompt → IsMemoryHalt r → ⊥)
      → MatchResult r (λ _. (steps : ℕ) × Taken steps) (UnlessFailed (λ refused. IsTrue files.told → RefusedBy refused))
      → HasPlayed ctl mch old new inputs later name files files' fabric fabric' r
  played (Ok x) visits calm link_calm found prompt takes = record {
    answered = record {
      keeps = keeps_world;
      visits = visits;
      cause = record { files = calm; fabric = link_calm };
      exact = λ told _. right takes.0 takes.1 told;
      sound = λ told sound rose. absurd (omega (arith, rose, calm));
    };
    ended = (takes.1.events, ended takes.0 takes.1);
    near = λ told. tt;
    prompt = λ prompt. tt;
    keeps = keeps;
  }
  played (Err (Fault (Refused refused))) visits calm link_calm found prompt refuses = refused_play refused visits calm link_calm refuses
  played (Err (Fault Read)) visits counted link_calm found prompt none = record {
    answered = record {
      keeps = keeps_world;
      visits = visits;
      cause = (counted, link_calm);
      exact = λ told calm. absurd (omega (arith, counted, calm.files));
      sound = λ told sound rose. missing (files.named name) (found sound) rose;
    };
    ended = tt;
    near = λ told. tt;
    prompt = λ prompt is. is;
    keeps = keeps;
  }
  played (Err (Fault Link)) visits calm counted found prompt none = record {
    answered = record {
      keeps = keeps_world;
      visits = visits;
      cause = (calm, counted);
      exact = λ told still. absurd (omega (arith, counted, still.fabric));
      sound = λ told sound rose. absurd (omega (arith, rose, calm));
    };
    ended = tt;
    near = λ told. tt;
    prompt = λ prompt is. is;
    keeps = keeps;
  }
  played (Err Memory) visits calm link_calm found prompt none = record {
    answered = record {
      keeps = keeps_world;
      visits = visits;
      cause = record { files = calm; fabric = link_calm };
      exact = λ told _. tt;
      sound = λ told sound rose. absurd (omega (arith, rose, calm));
    };
    ended = tt;
    near = λ told. tt;
    prompt = prompt;
    keeps = keeps;
  }

  -- the same where what stands along the schedule plays
  pub played_along : (playing : ℕ → List Event → Type 0) (r : Result (Unit {0}) (Or (Halt arch.Offence))) → Visited (schedule_errand name) files.visits files'.visits (is_ok r) → ReadCounted files.faults files'.faults r → HaltCounted fabric.faults fabric'.faults r
      → (IsTrue files.sound → IsSome (files.named name) → files'.faults ≡ files.faults) → (IsTrue fabric.prompt → IsMemoryHalt r → ⊥)
      → MatchResult r (λ _. (steps : ℕ) × TakesFile (rules_of old.bench.shape old.bench.timing old.bench.rows) (playing steps) files.told (files.named name)) (UnlessFailed (λ refused. IsTrue files.told → RefusedBy refused))
      → ((steps : ℕ) (events : List Event) → playing steps events → Plays ctl mch later events steps new fabric')
      → HasPlayed ctl mch old new inputs later name files files' fabric fabric' r
  played_along playing (Ok x) visits calm link_calm found prompt judged plays =
      played (Ok x) visits calm link_calm found prompt (judged.0, stands_too (rules_of old.bench.shape old.bench.timing old.bench.rows) (playing judged.0) (λ before. Plays ctl mch later before judged.0 new fabric') (plays judged.0) files.told (files.named name) judged.1)
  played_along playing (Err h) visits calm link_calm found prompt judged plays = played (Err h) visits calm link_calm found prompt judged
