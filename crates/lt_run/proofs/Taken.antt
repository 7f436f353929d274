-- What a network without losses answers, by who paces its rounds.
use Rattle.std.proofs.Common.{◌≡◌, ℕ, List, Option, Some, None, Result, Ok, Err, refl, ap, subst, sym}
use Rattle.std.specs.Prelude.{length}
use Rattle.lt_base.specs.Or.{MapsFault}
use Rattle.lt_base.specs.declared.memory.Or.{Or}
use Rattle.lt_base.specs.declared.memory.Or.TheVariants.{Fault, Memory}
use Rattle.lt_base.specs.declared.value.Value.{Value}
use Rattle.lt_base.specs.Program.{Function}
use Rattle.lt_arch.specs.declared.event.Event.{Event}
use Rattle.lt_arch.specs.declared.shape.Shape.{Shape}
use Rattle.lt_arch.specs.declared.timing.Timing.{Timing}
use Rattle.lt_io.specs.FilesState.{FilesState}
use Rattle.lt_io.specs.FabricState.{FabricState}
use Rattle.lt_place.specs.declared.layout.Layout.{Layout}
use Rattle.lt_arch.specs.declared.pace.Pace.{Pace}
use Rattle.lt_arch.specs.declared.pace.Pace.TheVariants.{Plain, Lossy, Leader}
use Rattle.lt_arch.specs.Paced.{allowed_of}
use Rattle.lt_answer.specs.Answered.{OfFile, Verdict}
use Rattle.lt_answer.specs.World.{world}
use Rattle.lt_answer.proofs.Stages.{widened}
use Rattle.lt_answer.specs.Rules.{Raised}
use Rattle.lt_schedule.specs.declared.halt.ScheduleRefusal.{ScheduleRefusal}
use Rattle.lt_schedule.specs.declared.halt.ScheduleRefusal.TheVariants as refusal
use Rattle.lt_schedule.specs.Rules.{file_judged_by}
use Rattle.lt_schedule.specs.Verdict.{rules_of, or_fault, verdict}
use Rattle.lt_schedule.specs.declared.halt.Halt.{Halt}
use Rattle.lt_schedule.specs.declared.halt.Halt.TheVariants as play
use Rattle.lt_net_start.specs.Blamed.{ReplayEndsWith, play_blame, IsNearPlay}
use Rattle.lt_net.specs.declared.replayed.Replayed.{Replayed}
use Rattle.lt_net_replay.specs.Replays.{HasReplayed, IsReplay, replay_verdict}
use Rattle.lt_load.proofs.Raising.{raised_value, raised_fault}
use Rattle.lt_run.specs.declared.fault.RunFault.{RunFault}
use Rattle.lt_run.specs.declared.fault.RunFault.TheVariants.{Read}
use Rattle.lt_run.specs.Fault.{run_blame, of_play, of_schedule, IsNearRun}
use Rattle.lt_run.specs.Kinds.{EventsBy, RunEndsBy, run_file_verdict}
use Rattle.lt_run.specs.Printed.{HasTaken, IsReplayBy}
use Rattle.lt_machine.specs.declared.machine.Machine.{Ghosts as Machines}
use Rattle.lt_arch.specs.declared.event.Offence.{Offence}

same_blame : (e : Halt Offence) → run_blame (of_play e) ≡ play_blame e
same_blame (play.Refused (refusal.Row row f)) = refl
same_blame (play.Refused (refusal.Offence event offence)) = refl
same_blame (play.Refused refusal.Bytes) = refl
same_blame play.Read = refl
same_blame play.Link = refl

near_fault : (file : Option (List ℕ)) (place : ℕ) (e : Halt Offence) → IsNearPlay file place (Fault e) → IsNearRun file place (Fault (of_play e))
near_fault file place (play.Refused (refusal.Row row f)) near = near
near_fault file place (play.Refused (refusal.Offence event offence)) near = near
near_fault file place (play.Refused refusal.Bytes) near = near
near_fault file place play.Read near = tt
near_fault file place play.Link near = tt

near_run : (file : Option (List ℕ)) (place : ℕ) (e : Or (Halt Offence)) (g : Or RunFault) → MapsFault e g (λ f h. h ≡ of_play f) → IsNearPlay file place e → IsNearRun file place g
near_run file place (Fault f) (Fault g) is near = subst (λ (h : RunFault). IsNearRun file place (Fault h)) (sym is) (near_fault file place f near)
near_run file place (Fault f) Memory is near = absurd is
near_run file place Memory (Fault g) is near = absurd is
near_run file place Memory Memory is near = tt

-- a schedule file, by the verdict of its events

module _ {T : Type 0} (end : List Event → T → Type 0) (end' : List Event → T → Type 0) (too : (events : List Event) (x : T) → end events x → end' events x) (s : Shape) (t : Timing) (rows : ℕ) where
  -- the same of a run's faults
  abbrev plain_verdict : Option (List ℕ) → Verdict T RunFault
  plain_verdict file = OfFile Read file (λ bytes outcome. RunEndsBy of_schedule end' (verdict s t rows bytes) outcome)

  ends_value : (v : Result (List Event) (ScheduleRefusal Offence)) (x : T) → ReplayEndsWith end v (Ok x) → RunEndsBy of_schedule end' (or_fault v) (Ok x)
  ends_value (Ok events) x right = too events x right
  ends_value (Err f) x right = absurd (cc)

  ends_fault : (v : Result (List Event) (ScheduleRefusal Offence)) (d : Halt Offence) → ReplayEndsWith end v (Err d) → RunEndsBy of_schedule end' (or_fault v) (Err (of_play d))
  ends_fault (Ok events) d right = right
  ends_fault (Err f) d right = let same : d ≡ play.Refused f = cc in ap (λ (g : Halt Offence). Err (of_play g)) same

  plain_value : (file : Option (List ℕ)) (x : T) → replay_verdict end s t rows file (Ok x) → plain_verdict file (Ok x)
  unfolding replay_verdict
  plain_value None x right = absurd (cc)
  plain_value (Some bytes) x right = ends_value (file_judged_by (rules_of s t rows) bytes) x right

  plain_fault : (file : Option (List ℕ)) (d : Halt Offence) → replay_verdict end s t rows file (Err d) → plain_verdict file (Err (of_play d))
  unfolding replay_verdict
  plain_fault None d right = let same : d ≡ play.Read = cc in ap (λ (g : Halt Offence). Err (of_play g)) same
  plain_fault (Some bytes) d right = ends_fault (file_judged_by (rules_of s t rows) bytes) d right

  pub plainly : (file : Option (List ℕ)) (o : Result T RunFault) → Raised of_play (replay_verdict end s t rows file) o → plain_verdict file o
  plainly file (Ok x) right = plain_value file x right
  plainly file (Err e) right = subst (λ (g : RunFault). plain_verdict file (Err g)) (sym right.2) (plain_fault file right.0 right.1)

-- what the network took

module _ {M : Type 0} (mch : Machines M) (l : Layout) (s : Shape) (t : Timing) (inputs : List (List Value)) (name : List ℕ) (files files' : FilesState) (fabric fabric' : FabricState) where
  abbrev end : List Event → Replayed M → Type 0
  end = IsReplay mch l s t inputs fabric'

  abbrev file : Option (List ℕ)
  file = files.named name

  abbrev Right : Verdict (Replayed M) (Halt Offence)
  Right = replay_verdict end s t (length inputs) file

  abbrev Replays : Result (Replayed M) (Or (Halt Offence)) → Type 0
  Replays r = HasReplayed mch l s t inputs name files files' fabric fabric' r

  abbrev Takes : Pace → Result (Replayed M) (Or RunFault) → Type 0
  Takes pace r = HasTaken mch pace l s t inputs name files files' fabric fabric' r

  wider : (pace : Pace) → allowed_of pace ≡ None → (o : Result (Replayed M) RunFault) → Raised of_play Right o → run_file_verdict pace (IsReplayBy mch pace l s t inputs fabric') s t (length inputs) file o
  unfolding run_file_verdict
  wider Plain none o right = plainly end (IsReplayBy mch Plain l s t inputs fabric') (λ events x is. record { run = is.run; steps = is.steps }) s t (length inputs) file o right
  wider (Lossy losses) none o right = absurd (cc)
  wider (Leader leader) none o right = plainly end (IsReplayBy mch (Leader leader) l s t inputs fabric') (λ events x is. record { run = is.run; steps = is.steps }) s t (length inputs) file o right

  ended_by : (pace : Pace) → allowed_of pace ≡ None → (x : Replayed M) → ((events : List Event) × end events x) → (events : EventsBy pace) × IsReplayBy mch pace l s t inputs fabric' events x
  ended_by Plain none x ended = (ended.0, record { run = ended.1.run; steps = ended.1.steps })
  ended_by (Lossy losses) none x ended = absurd (cc)
  ended_by (Leader leader) none x ended = (ended.0, record { run = ended.1.run; steps = ended.1.steps })

  pub taken : (pace : Pace) → allowed_of pace ≡ None → (x : Replayed M) → Replays (Ok x) → Takes pace (Ok x)
  taken pace none x replays = record {
    answered =
        widened (Raised of_play Right) (run_file_verdict pace (IsReplayBy mch pace l s t inputs fabric') s t (length inputs) file) (world files fabric) (world files' fabric') (Ok x) (wider pace none)
        (raised_value of_play play_blame run_blame same_blame Right (world files fabric) (world files' fabric') x replays.answered);
    ended = ended_by pace none x replays.ended;
    near = λ told. tt;
    opens = record { calls = replays.opens.calls; done = replays.opens.done };
    layout = replays.layout;
  }

  pub not_taken : (pace : Pace) → allowed_of pace ≡ None → (e : Or (Halt Offence)) (g : Or RunFault) → MapsFault e g (λ f h. h ≡ of_play f) → Replays (Err e) → Takes pace (Err g)
  not_taken pace none e g is replays = record {
    answered =
        widened (Raised of_play Right) (run_file_verdict pace (IsReplayBy mch pace l s t inputs fabric') s t (length inputs) file) (world files fabric) (world files' fabric') (Err g) (wider pace none)
        (raised_fault of_play play_blame run_blame same_blame Right (world files fabric) (world files' fabric') e g is replays.answered);
    ended = tt;
    near = λ told. near_run file files'.place e g is (replays.near told);
    opens = record { calls = replays.opens.calls; done = tt };
    layout = tt;
  }
