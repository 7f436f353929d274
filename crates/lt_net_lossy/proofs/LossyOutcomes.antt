-- What a play over links that lose messages answers.
use Rattle.std.proofs.Common.{◌≡◌, ◌<◌, ℕ, true, false, List, length, Option, Some, None, Result, Ok, Err, IsTrue, refl, sym, ap, ◌∙◌, subst, arith}
use Rattle.std.specs.Prelude.{IsSome, IsErrAnd, MatchResult, OnOk, is_ok}
use Rattle.lt_base.specs.declared.value.Value.{Value}
use Rattle.lt_base.specs.declared.memory.Or.{Or}
use Rattle.lt_base.specs.declared.memory.Or.TheVariants.{Fault, Memory}
use Rattle.lt_io.specs.FilesState.{FilesState, KeepsNames}
use Rattle.lt_io.specs.Visits.{Visited}
use Rattle.lt_io.specs.FabricState.{FabricState}
use Rattle.lt_io.proofs.Keeps.{promises_kept}
use Rattle.lt_io.proofs.Visiting.{visited_any}
use Rattle.lt_lossy.specs.declared.event.LossyEvent.{LossyEvent}
use Rattle.lt_lossy.specs.declared.event.LossyOffence.{LossyOffence}
use Rattle.lt_lossy.specs.Schedule.{lossy_reached}
use Rattle.lt_answer.specs.World.{KeepsWorld, world}
use Rattle.lt_answer.specs.Answered.{OfFile, Verdict, RefusesReading}
use Rattle.lt_schedule.specs.declared.halt.ScheduleRefusal.{ScheduleRefusal}
use Rattle.lt_schedule.specs.declared.halt.Halt.{Halt}
use Rattle.lt_schedule.specs.Errand.{schedule_errand}
use Rattle.lt_schedule.specs.Halted.{UnlessFailed, ReadCounted, ReadCountedBy, HaltCounted, HaltCountedBy}
use Rattle.lt_schedule.specs.Rules.{Rules, file_judged_by}
use Rattle.lt_schedule.specs.Replayed.{TakesFile, RefusesFile}
use Rattle.lt_net_lossy.specs.NetModel.{LossyNetState}
use Rattle.lt_net_lossy.specs.Taken.{IsKeptLossy}
use Rattle.lt_net_start.proofs.Onward.{stands_too}
use Rattle.lt_net.specs.declared.replayed.Replayed.{Replayed}
use Rattle.lt_net_start.proofs.Onward.{at_error}
use Rattle.lt_schedule.specs.declared.halt.Halt.TheVariants.{Refused, Read, Link}
use Rattle.lt_net_lossy.specs.Rules.{lossy_rules_of}
use Rattle.lt_net_start.specs.Blamed.{ReplayEndsWith, play_blame, IsNearPlay}
use Rattle.lt_net_lossy.specs.LossyReplays.{IsLossyReplay, lossy_replay_verdict, HasLossyPlayed}
use Rattle.lt_net_lossy.specs.LossyPlays.{PlaysLossy, KeepsLossyPlay, IsTakenFrom}
use Rattle.lt_net_start.specs.Ends.{FinishesBy}
use Rattle.lt_net_lossy.proofs.LossyAtTheEnd.{is_replay, stopped_at}
use Rattle.lt_machine.specs.declared.machine.Machine.{Ghosts as Machines}
use Rattle.lt_arch.specs.declared.controller.Controller.{Ghosts as Controls}

module _ {C M : Type 0} (mch : Machines M) (old new : LossyNetState C M) (inputs later : List (List Value)) (name : List ℕ) (files files' : FilesState) (fabric fabric' : FabricState)
    (rows_is : old.bench.rows ≡ length inputs) (keeps_files : KeepsNames files files') (keeps : KeepsLossyPlay old new inputs later fabric fabric') where
  abbrev rules : (rows : ℕ) → Rules LossyEvent LossyOffence
  rules rows = lossy_rules_of old.bench.shape old.bench.timing old.bench.watch.limit rows

  abbrev ends_at : List LossyEvent → Replayed M → Type 0
  ends_at = IsLossyReplay mch old.bench.layout old.bench.shape old.bench.timing old.bench.watch.limit inputs fabric'

  abbrev right_of : Option (List ℕ) → Verdict (Replayed M) (Halt LossyOffence)
  right_of file = lossy_replay_verdict ends_at old.bench.shape old.bench.timing old.bench.watch.limit (length inputs) file

  abbrev RefusedBy : ScheduleRefusal LossyOffence → Type 0
  RefusedBy refused = RefusesFile (rules old.bench.rows) (files.named name) files'.place refused

  abbrev Replays : Result (Replayed M) (Or (Halt LossyOffence)) → Type 0
  Replays result = HasLossyPlayed mch old.bench.layout old.bench.shape old.bench.timing old.bench.watch.limit inputs name files files' fabric fabric' result

  keeps_world : KeepsWorld (world files fabric) (world files' fabric')
  keeps_world = record { files = keeps_files; fabric = promises_kept fabric fabric' keeps.fabric_kept; steady = keeps.steady }

  judged_same : (bytes : List ℕ) → file_judged_by (rules old.bench.rows) bytes ≡ file_judged_by (rules (length inputs)) bytes
  judged_same bytes = ap (λ rows. file_judged_by (rules rows) bytes) rows_is

  wrong : (refused : ScheduleRefusal LossyOffence) → RefusedBy refused → right_of (files.named name) (Err (Refused refused))
  unfolding lossy_replay_verdict
  wrong refused refuses =
      subst (λ (file : Option (List ℕ)). OfFile Read file (λ bytes outcome. ReplayEndsWith ends_at (file_judged_by (rules (length inputs)) bytes) outcome) (Err (Refused refused))) (sym refuses.file_is)
      (subst (λ v. ReplayEndsWith ends_at v (Err (Refused refused))) (sym (sym (judged_same refuses.bytes) ∙ refuses.reads)) refl)

  missing : (file : Option (List ℕ)) → (IsSome file → files'.faults ≡ files.faults) → files.faults < files'.faults → RefusesReading play_blame (right_of file)
  unfolding lossy_replay_verdict
  missing None found rose = (Read, refl, refl)
  missing (Some bytes) found rose = absurd (omega (arith, found refl, rose))

  near : (refused : ScheduleRefusal LossyOffence) → RefusedBy refused → IsNearPlay (files.named name) files'.place (Fault (Refused refused))
  near refused refuses = subst (λ (file : Option (List ℕ)). IsNearPlay file files'.place (Fault (Refused refused))) (sym refuses.file_is) refuses.near

  -- not all were
  pub halted : (h : Or (Halt LossyOffence)) → Visited (schedule_errand name) files.visits files'.visits false → ReadCountedBy files.faults files'.faults h → HaltCountedBy fabric.faults fabric'.faults h
      → (IsTrue files.sound → IsSome (files.named name) → files'.faults ≡ files.faults) → UnlessFailed (λ refused. IsTrue files.told → RefusedBy refused) h → Replays (Err h)
  halted (Fault (Refused refused)) visits calm link_calm found refuses = record {
    answered = record {
      keeps = keeps_world;
      visits = visits;
      cause = record { files = calm; fabric = link_calm };
      exact = λ told _. wrong refused (refuses told);
      sound = λ told sound rose. absurd (omega (arith, rose, calm));
    };
    ended = tt;
    near = λ told. near refused (refuses told);
    opens = keeps.fabric_kept.opens;
    layout = tt;
  }
  halted (Fault Read) visits rose link_calm found none = record {
    answered = record {
      keeps = keeps_world;
      visits = visits;
      cause = (rose, link_calm);
      exact = λ told calm. absurd (omega (arith, rose, calm.files));
      sound = λ told sound more. missing (files.named name) (found sound) more;
    };
    ended = tt;
    near = λ told. tt;
    opens = keeps.fabric_kept.opens;
    layout = tt;
  }
  halted (Fault Link) visits calm rose found none = record {
    answered = record {
      keeps = keeps_world;
      visits = visits;
      cause = (calm, rose);
      exact = λ told still. absurd (omega (arith, rose, still.fabric));
      sound = λ told sound more. absurd (omega (arith, more, calm));
    };
    ended = tt;
    near = λ told. tt;
    opens = keeps.fabric_kept.opens;
    layout = tt;
  }
  halted Memory visits calm link_calm found none = record {
    answered = record {
      keeps = keeps_world;
      visits = visits;
      cause = record { files = calm; fabric = link_calm };
      exact = λ told _. tt;
      sound = λ told sound more. absurd (omega (arith, more, calm));
    };
    ended = tt;
    near = λ told. tt;
    opens = keeps.fabric_kept.opens;
    layout = tt;
  }

  module _ (ctl : Controls C) where
    abbrev Taken : Type 0
    Taken = TakesFile (rules old.bench.rows) (λ before. PlaysLossy ctl mch later before new fabric') files.told (files.named name)

    right : (takes : Taken) (taken : Replayed M) → ends_at takes.events taken → IsTrue files.told → right_of (files.named name) (Ok taken)
    unfolding lossy_replay_verdict
    right takes taken ends told =
        let reads = takes.reads told in
        subst (λ (file : Option (List ℕ)). OfFile Read file (λ bytes outcome. ReplayEndsWith ends_at (file_judged_by (rules (length inputs)) bytes) outcome) (Ok taken)) (sym reads.file_is)
        (subst (λ v. ReplayEndsWith ends_at v (Ok taken)) (sym (sym (judged_same reads.bytes) ∙ reads.reads)) ends)

    -- all events were taken
    module _ (takes : Taken) (visits : Visited (schedule_errand name) files.visits files'.visits true) (calm : files'.faults ≡ files.faults) (link_calm : fabric'.faults ≡ fabric.faults) where
      -- so an end was
      pub took_end : (h : ℕ) × (new.bench.watch.horizon ≡ Some h)
      took_end =
          let plays = takes.stands_for in
          let last = stopped_at (lossy_reached old.bench.shape old.bench.timing old.bench.rows takes.events) takes.stops in
          let kept = plays.kept.1 in
          let same = keeps.fixed in (
            last.0,
            kept.stood.standing.times.horizon
                ∙ (λ i. (lossy_reached (same.shape i) (same.timing i) (same.rows i) (kept.events i)).horizon) ∙ last.1,
          )

      -- there is no memory for what is taken
      pub untaken : (r : Result (Replayed M) (Or (Halt LossyOffence))) → IsErrAnd r (λ f. f ≡ Memory) → Replays r
      untaken r is = at_error Replays r Memory is (record {
        answered = record {
          keeps = keeps_world;
          visits = visited_any (schedule_errand name) files.visits files'.visits false visits;
          cause = record { files = calm; fabric = link_calm };
          exact = λ told _. tt;
          sound = λ told sound rose. absurd (omega (arith, rose, calm));
        };
        ended = tt;
        near = λ told. tt;
        opens = keeps.fabric_kept.opens;
        layout = tt;
      })

      -- it is taken
      module _ (kept : IsKeptLossy new.bench) (tracks : length new.bench.tracks ≡ length new.bench.layout.outs) (taken : Replayed M) (is : IsTakenFrom new.bench taken) where
        at_last : ends_at takes.events taken
        at_last =
            let plays = takes.stands_for in
            let same = keeps.fixed in
            subst (λ z. IsLossyReplay mch z old.bench.shape old.bench.timing old.bench.watch.limit inputs fabric' takes.events taken) same.layout
            (subst (λ z. IsLossyReplay mch new.bench.layout z old.bench.timing old.bench.watch.limit inputs fabric' takes.events taken) same.shape
            (subst (λ z. IsLossyReplay mch new.bench.layout new.bench.shape z old.bench.watch.limit inputs fabric' takes.events taken) same.timing
            (subst (λ z. IsLossyReplay mch new.bench.layout new.bench.shape new.bench.timing z inputs fabric' takes.events taken) same.limit
            (subst (λ z. IsLossyReplay mch new.bench.layout new.bench.shape new.bench.timing new.bench.watch.limit z fabric' takes.events taken) keeps.inputs_are
            (is_replay ctl mch new.bench later takes.events fabric' plays.kept.0 plays.fed.rows plays.fed.fixed plays.kept.1 kept.sized tracks taken is)))))

        pub taken_so : Replays (Ok taken)
        taken_so = record {
          answered = record {
            keeps = keeps_world;
            visits = visits;
            cause = record { files = calm; fabric = link_calm };
            exact = λ told _. right takes taken at_last told;
            sound = λ told sound rose. absurd (omega (arith, rose, calm));
          };
          ended = (takes.events, at_last);
          near = λ told. tt;
          opens = keeps.fabric_kept.opens;
          layout = is.layout ∙ keeps.fixed.layout;
        }

    -- What the answer to the whole file comes to, where a net along the schedule takes its events.
    module _ (playing : List LossyEvent → Type 0) (plays : (events : List LossyEvent) → playing events → PlaysLossy ctl mch later events new fabric') where
      abbrev Judged : Result (Unit {0}) (Or (Halt LossyOffence)) → Type 0
      Judged r = MatchResult r (λ _. (steps : ℕ) × TakesFile (rules old.bench.rows) playing files.told (files.named name)) (UnlessFailed (λ refused. IsTrue files.told → RefusedBy refused))

      taken_by : (x : Unit {0}) → Judged (Ok x) → Taken
      taken_by x judged = stands_too (rules old.bench.rows) playing (λ before. PlaysLossy ctl mch later before new fabric') plays files.told (files.named name) judged.1

      pub ended_by : (r : Result (Unit {0}) (Or (Halt LossyOffence))) → Visited (schedule_errand name) files.visits files'.visits (is_ok r) → ReadCounted files.faults files'.faults r → HaltCounted fabric.faults fabric'.faults r → Judged r →
          OnOk r ((h : ℕ) × (new.bench.watch.horizon ≡ Some h))
      ended_by (Ok x) visits calm link_calm judged = took_end (taken_by x judged) visits calm link_calm
      ended_by (Err h) visits calm link_calm judged = tt

      pub finished : (r : Result (Unit {0}) (Or (Halt LossyOffence))) → Visited (schedule_errand name) files.visits files'.visits (is_ok r) → ReadCounted files.faults files'.faults r → HaltCounted fabric.faults fabric'.faults r → Judged r →
          (IsTrue files.sound → IsSome (files.named name) → files'.faults ≡ files.faults) → IsKeptLossy new.bench → length new.bench.tracks ≡ length new.bench.layout.outs → (result : Result (Replayed M) (Or (Halt LossyOffence))) → FinishesBy (IsTakenFrom new.bench) r result → Replays result
      finished (Ok x) visits calm link_calm judged found kept tracks (Ok taken) is = taken_so (taken_by x judged) visits calm link_calm kept tracks taken is
      finished (Ok x) visits calm link_calm judged found kept tracks (Err fault) is = untaken (taken_by x judged) visits calm link_calm (Err fault) is
      finished (Err h) visits calm link_calm judged found kept tracks result is = subst Replays (sym is) (halted h visits calm link_calm found judged)
