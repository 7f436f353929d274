-- What a network over links that lose messages answers, as a run.
use Rattle.std.proofs.Common.{◌≡◌, ℕ, List, Option, Some, None, Result, Ok, Err, refl, ap, subst, sym}
use Rattle.std.specs.Prelude.{length}
use Rattle.lt_base.specs.Or.{MapsFault}
use Rattle.lt_base.specs.declared.memory.Or.{Or}
use Rattle.lt_base.specs.declared.memory.Or.TheVariants.{Fault, Memory}
use Rattle.lt_base.specs.declared.value.Value.{Value}
use Rattle.lt_base.specs.Program.{Function}
use Rattle.lt_arch.specs.declared.shape.Shape.{Shape}
use Rattle.lt_arch.specs.declared.timing.Timing.{Timing}
use Rattle.lt_io.specs.FilesState.{FilesState}
use Rattle.lt_io.specs.FabricState.{FabricState}
use Rattle.lt_place.specs.declared.layout.Layout.{Layout}
use Rattle.lt_arch.specs.declared.pace.Pace.{Pace}
use Rattle.lt_arch.specs.declared.pace.Pace.TheVariants.{Lossy as LosesMessages}
use Rattle.lt_answer.specs.Answered.{OfFile, Verdict}
use Rattle.lt_answer.specs.World.{world}
use Rattle.lt_answer.proofs.Stages.{widened}
use Rattle.lt_answer.specs.Rules.{Raised}
use Rattle.lt_schedule.specs.declared.halt.ScheduleRefusal.{ScheduleRefusal}
use Rattle.lt_schedule.specs.declared.halt.ScheduleRefusal.TheVariants as refusal
use Rattle.lt_schedule.specs.Rules.{file_judged_by}
use Rattle.lt_lossy.specs.declared.event.LossyEvent.{LossyEvent}
use Rattle.lt_lossy.specs.declared.event.LossyOffence.{LossyOffence}
use Rattle.lt_net.specs.declared.replayed.Replayed.{Replayed}
use Rattle.lt_schedule.specs.declared.halt.Halt.{Halt}
use Rattle.lt_schedule.specs.declared.halt.Halt.TheVariants as lossy
use Rattle.lt_net_lossy.specs.Rules.{lossy_rules_of}
use Rattle.lt_net_start.specs.Blamed.{ReplayEndsWith, play_blame, IsNearPlay}
use Rattle.lt_net_lossy.specs.LossyReplays.{HasLossyReplayed, IsLossyReplay, lossy_replay_verdict}
use Rattle.lt_load.proofs.Raising.{raised_value, raised_fault}
use Rattle.lt_run.specs.declared.fault.RunFault.{RunFault}
use Rattle.lt_run.specs.declared.fault.RunFault.TheVariants.{Read}
use Rattle.lt_run.specs.Fault.{run_blame, of_lossy, of_refusal, IsNearRun}
use Rattle.lt_run.specs.Kinds.{RunEndsBy, run_file_verdict}
use Rattle.lt_run.specs.Printed.{HasTaken, IsReplayBy}
use Rattle.lt_machine.specs.declared.machine.Machine.{Ghosts as Machines}

same_blame : (e : Halt LossyOffence) → run_blame (of_lossy e) ≡ play_blame e
same_blame (lossy.Refused (refusal.Row row f)) = refl
same_blame (lossy.Refused (refusal.Offence event offence)) = refl
same_blame (lossy.Refused refusal.Bytes) = refl
same_blame lossy.Read = refl
same_blame lossy.Link = refl

near_fault : (file : Option (List ℕ)) (place : ℕ) (e : Halt LossyOffence) → IsNearPlay file place (Fault e) → IsNearRun file place (Fault (of_lossy e))
near_fault None place (lossy.Refused (refusal.Row row f)) near = tt
near_fault (Some bytes) place (lossy.Refused (refusal.Row row f)) near = near
near_fault file place (lossy.Refused (refusal.Offence event offence)) near = near
near_fault None place (lossy.Refused refusal.Bytes) near = tt
near_fault (Some bytes) place (lossy.Refused refusal.Bytes) near = near
near_fault file place lossy.Read near = tt
near_fault file place lossy.Link near = tt

near_run : (file : Option (List ℕ)) (place : ℕ) (e : Or (Halt LossyOffence)) (g : Or RunFault) → MapsFault e g (λ f h. h ≡ of_lossy f) → IsNearPlay file place e → IsNearRun file place g
near_run file place (Fault f) (Fault g) is near = subst (λ (h : RunFault). IsNearRun file place (Fault h)) (sym is) (near_fault file place f near)
near_run file place (Fault f) Memory is near = absurd is
near_run file place Memory (Fault g) is near = absurd is
near_run file place Memory Memory is near = tt

-- a schedule file, by the verdict of its events

module _ {T : Type 0} (end : List LossyEvent → T → Type 0) (end' : List LossyEvent → T → Type 0) (too : (events : List LossyEvent) (x : T) → end events x → end' events x) (s : Shape) (t : Timing) (losses rows : ℕ) where
  -- the same of a run's faults
  abbrev run_verdict : Option (List ℕ) → Verdict T RunFault
  run_verdict file = OfFile Read file (λ bytes outcome. RunEndsBy of_refusal end' (file_judged_by (lossy_rules_of s t losses rows) bytes) outcome)

  ends_value : (v : Result (List LossyEvent) (ScheduleRefusal LossyOffence)) (x : T) → ReplayEndsWith end v (Ok x) → RunEndsBy of_refusal end' v (Ok x)
  ends_value (Ok events) x right = too events x right
  ends_value (Err f) x right = absurd (cc)

  ends_fault : (v : Result (List LossyEvent) (ScheduleRefusal LossyOffence)) (d : Halt LossyOffence) → ReplayEndsWith end v (Err d) → RunEndsBy of_refusal end' v (Err (of_lossy d))
  ends_fault (Ok events) d right = right
  ends_fault (Err f) d right = let same : d ≡ lossy.Refused f = cc in ap (λ (g : Halt LossyOffence). Err (of_lossy g)) same

  lossy_value : (file : Option (List ℕ)) (x : T) → lossy_replay_verdict end s t losses rows file (Ok x) → run_verdict file (Ok x)
  unfolding lossy_replay_verdict
  lossy_value None x right = absurd (cc)
  lossy_value (Some bytes) x right = ends_value (file_judged_by (lossy_rules_of s t losses rows) bytes) x right

  lossy_fault : (file : Option (List ℕ)) (d : Halt LossyOffence) → lossy_replay_verdict end s t losses rows file (Err d) → run_verdict file (Err (of_lossy d))
  unfolding lossy_replay_verdict
  lossy_fault None d right = let same : d ≡ lossy.Read = cc in ap (λ (g : Halt LossyOffence). Err (of_lossy g)) same
  lossy_fault (Some bytes) d right = ends_fault (file_judged_by (lossy_rules_of s t losses rows) bytes) d right

  pub lossily : (file : Option (List ℕ)) (o : Result T RunFault) → Raised of_lossy (lossy_replay_verdict end s t losses rows file) o → run_verdict file o
  lossily file (Ok x) right = lossy_value file x right
  lossily file (Err e) right = subst (λ (g : RunFault). run_verdict file (Err g)) (sym right.2) (lossy_fault file right.0 right.1)

-- what the network took

module _ {M : Type 0} (mch : Machines M) (l : Layout) (s : Shape) (t : Timing) (losses : ℕ) (inputs : List (List Value)) (name : List ℕ) (files files' : FilesState) (fabric fabric' : FabricState) where
  abbrev end : List LossyEvent → Replayed M → Type 0
  end = IsLossyReplay mch l s t losses inputs fabric'

  abbrev file : Option (List ℕ)
  file = files.named name

  abbrev Right : Verdict (Replayed M) (Halt LossyOffence)
  Right = lossy_replay_verdict end s t losses (length inputs) file

  abbrev Replays : Result (Replayed M) (Or (Halt LossyOffence)) → Type 0
  Replays r = HasLossyReplayed mch l s t losses inputs name files files' fabric fabric' r

  abbrev Takes : Pace → Result (Replayed M) (Or RunFault) → Type 0
  Takes pace r = HasTaken mch pace l s t inputs name files files' fabric fabric' r

  abbrev Ends : List LossyEvent → Replayed M → Type 0
  Ends = IsReplayBy mch (LosesMessages losses) l s t inputs fabric'

  same_end : (events : List LossyEvent) (x : Replayed M) → end events x → Ends events x
  same_end events x is = record { run = is.run; steps = is.steps }

  wider : (o : Result (Replayed M) RunFault) → Raised of_lossy Right o → run_file_verdict (LosesMessages losses) Ends s t (length inputs) file o
  unfolding run_file_verdict
  wider o right = lossily end Ends same_end s t losses (length inputs) file o right

  took : (x : Replayed M) → Replays (Ok x) → Takes (LosesMessages losses) (Ok x)
  took x replays = record {
    answered =
        widened (Raised of_lossy Right) (run_file_verdict (LosesMessages losses) Ends s t (length inputs) file) (world files fabric) (world files' fabric') (Ok x) wider
        (raised_value of_lossy play_blame run_blame same_blame Right (world files fabric) (world files' fabric') x replays.answered);
    ended = (replays.ended.0, same_end replays.ended.0 x replays.ended.1);
    near = λ told. tt;
    opens = record { calls = replays.opens.calls; done = replays.opens.done };
    layout = replays.layout;
  }

  not_took : (e : Or (Halt LossyOffence)) (g : Or RunFault) → MapsFault e g (λ f h. h ≡ of_lossy f) → Replays (Err e) → Takes (LosesMessages losses) (Err g)
  not_took e g is replays = record {
    answered =
        widened (Raised of_lossy Right) (run_file_verdict (LosesMessages losses) Ends s t (length inputs) file) (world files fabric) (world files' fabric') (Err g) wider
        (raised_fault of_lossy play_blame run_blame same_blame Right (world files fabric) (world files' fabric') e g is replays.answered);
    ended = tt;
    near = λ told. near_run file files'.place e g is (replays.near told);
    opens = record { calls = replays.opens.calls; done = tt };
    layout = tt;
  }

  -- whatever pace it is that loses messages so
  pub taken_lossy : (pace : Pace) → pace ≡ LosesMessages losses → (x : Replayed M) → Replays (Ok x) → Takes pace (Ok x)
  taken_lossy pace is x replays = subst (λ (p : Pace). Takes p (Ok x)) (sym is) (took x replays)

  pub not_taken_lossy : (pace : Pace) → pace ≡ LosesMessages losses → (e : Or (Halt LossyOffence)) (g : Or RunFault) → MapsFault e g (λ f h. h ≡ of_lossy f) → Replays (Err e) → Takes pace (Err g)
  not_taken_lossy pace same e g is replays = subst (λ (p : Pace). Takes p (Err g)) (sym same) (not_took e g is replays)
