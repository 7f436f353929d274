-- What a network along a drawn list comes to, from what its net did.
use Rattle.std.proofs.Common.{◌≡◌, ◌∙◌, ◌≤◌, ℕ, suc, List, [], length, Option, Some, None, Result, Ok, Err, IsTrue, refl, sym, subst, arith}
use Rattle.std.specs.Prelude.{IsErrAnd, OnOk, is_some, if◌then◌else◌}
use Rattle.lt_base.specs.declared.value.Value.{Value}
use Rattle.lt_base.specs.Behaviour.{RowsFit}
use Rattle.lt_arch.specs.declared.event.Event.{Event}
use Rattle.lt_arch.specs.declared.limits.TheConstants.{GREATEST_TIME}
use Rattle.lt_arch.specs.declared.shape.Shape.{Shape}
use Rattle.lt_arch.specs.declared.timing.Timing.{Timing}
use Rattle.lt_arch.specs.Schedule.{OnePlace, reached}
use Rattle.lt_arch.specs.declared.event.Offence as arch
use Rattle.lt_arch.specs.declared.event.Offence.TheVariants.{NoEnd}
use Rattle.lt_io.specs.declared.fault.LinkErr.{LinkErr}
use Rattle.lt_io.specs.declared.fault.LinkErr.TheVariants.{Memory}
use Rattle.lt_io.specs.Counts.{LinkCounted, LinkCountedBy}
use Rattle.lt_io.specs.FabricState.{FabricState, KeepsPromises, OpensAtMostOnce}
use Rattle.lt_io.proofs.Keeps.{promises_kept, promises_refl, promises_trans}
use Rattle.lt_schedule.specs.Verdict.{unended}
use Rattle.lt_norm.specs.Flat.{Originated}
use Rattle.lt_place.specs.declared.layout.Layout.{Layout}
use Rattle.lt_place.specs.Layout.{IsPlaced}
use Rattle.lt_net.specs.NetModel.{NetState}
use Rattle.lt_net.specs.Kept.{IsSized}
use Rattle.lt_net.specs.Starts.{IsMadeOf}
use Rattle.lt_net.specs.declared.replayed.Replayed.{Replayed}
use Rattle.lt_net_replay.specs.Plays.{Plays, KeepsPlay}
use Rattle.lt_net_replay.specs.Played.{IsAtEnd}
use Rattle.lt_net_replay.specs.Sound.{PlanIsSound}
use Rattle.lt_net_replay.specs.Replays.{ReplayIsTaken}
use Rattle.lt_net_replay.proofs.AtEnd.{at_end}
use Rattle.lt_net_replay.proofs.Performed.{replayed_at}
use Rattle.lt_sim.specs.Drawn.{drawn}
use Rattle.lt_sim.proofs.Ending.{drawn-sound}
use Rattle.lt_net_drawn.specs.Listed.{EndsPlay, HasReplayedList}
use Rattle.lt_machine.specs.declared.machine.Machine.{Ghosts as Machines}
use Rattle.lt_arch.specs.declared.controller.Controller.{Ghosts as Controls}

-- there is no memory to begin with
pub no_memory : {M : Type 0} (mch : Machines M) (l : Layout) (s : Shape) (t : Timing) (inputs : List (List Value)) (events : List Event) (fabric : FabricState)
    (r : Result (Replayed M) LinkErr) → IsErrAnd r (λ e. e ≡ Memory) → HasReplayedList mch l s t inputs events fabric fabric r
no_memory mch l s t inputs events fabric (Ok x) is = absurd is
no_memory mch l s t inputs events fabric (Err e) is =
    subst (λ f. HasReplayedList mch l s t inputs events fabric fabric (Err f)) (sym is)
    (record { replays = tt; cause = refl; sound = λ sound. refl; keeps = promises_refl fabric; opens = record { calls = record { least = omega arith; most = omega arith }; done = tt } })

-- the fabric was not opened
pub not_opened : {M : Type 0} (mch : Machines M) (l : Layout) (s : Shape) (t : Timing) (inputs : List (List Value)) (events : List Event) (fabric fabric' : FabricState) (e : LinkErr) →
    KeepsPromises fabric fabric' → (IsTrue fabric.sound → fabric'.faults ≡ fabric.faults) → OpensAtMostOnce fabric fabric' → LinkCountedBy fabric.faults fabric'.faults e →
    HasReplayedList mch l s t inputs events fabric fabric' (Err e)
not_opened mch l s t inputs events fabric fabric' e keeps steady calls cause = record { replays = tt; cause = cause; sound = steady; keeps = keeps; opens = record { calls = calls; done = tt } }

-- a state with an end lacks none
ends_there : (h : Option ℕ) (g : ℕ) → h ≡ Some g → ◌≡◌ {A = Option arch.Offence} (if is_some h then None else Some NoEnd) None
ends_there None g is = absurd cc
ends_there (Some h) g is = refl

module _ {C M : Type 0} (ctl : Controls C) (mch : Machines M) (l : Layout) (s : Shape) (t : Timing) (inputs lent later : List (List Value)) (seed horizon : ℕ) (one_place : OnePlace s t (length inputs)) (near : horizon ≤ GREATEST_TIME)
    (fabric mid fabric' : FabricState) (opened : KeepsPromises fabric mid) (calm : mid.faults ≡ fabric.faults) (once : mid.opens ≡ suc fabric.opens) (old new : NetState C M) (ms : List M) (cs : List C)
    (is : IsMadeOf l s t (length inputs) ms cs old.bench) (same : lent ≡ inputs) (keeps_lent : KeepsPlay mch.size old new lent later mid fabric') where
  abbrev events : List Event
  events = drawn s t (length inputs) seed horizon

  abbrev PlayedAll : Type 0
  PlayedAll = (steps : ℕ) × Plays ctl mch later events steps new fabric'

  keeps : KeepsPlay mch.size old new inputs later mid fabric'
  keeps = subst (λ z. KeepsPlay mch.size old new z later mid fabric') same keeps_lent

  stops : unended (reached old.bench.shape old.bench.timing old.bench.rows events) ≡ None
  stops = (λ i. unended (reached (is.shape i) (is.timing i) (is.rows i) events)) ∙ ends_there (reached s t (length inputs) events).horizon horizon (drawn-sound s t (length inputs) seed horizon one_place near).ends

  last : PlayedAll → IsAtEnd ctl mch old new inputs fabric' events
  last played = at_end ctl mch old new inputs later mid fabric' keeps events played.0 played.1 stops

  pub ends_by : (p : Result (Unit {0}) LinkErr) → OnOk p PlayedAll → OnOk p ((h : ℕ) × (new.bench.watch.horizon ≡ Some h))
  ends_by (Ok x) played = (last played).horizon
  ends_by (Err e) played = tt

  same_opens : fabric'.opens ≡ suc fabric.opens
  same_opens = keeps.fabric_kept.opens ∙ once

  one_call : OpensAtMostOnce fabric fabric'
  one_call = let o = same_opens in record { least = omega (arith, o); most = omega (arith, o) }

  promises : KeepsPromises fabric fabric'
  promises = promises_trans fabric mid fabric' opened (promises_kept mid fabric' keeps.fabric_kept)

  steady : IsTrue fabric.sound → fabric'.faults ≡ fabric.faults
  steady sound = keeps.steady (subst IsTrue (sym opened.sound) sound) ∙ calm

  cause_on : (r : Result (Unit {0}) LinkErr) → LinkCounted mid.faults fabric'.faults r → LinkCounted fabric.faults fabric'.faults r
  cause_on r cause = subst (λ (n : ℕ). LinkCounted n fabric'.faults r) calm cause

  pub comes_to : (f : Originated) → IsPlaced f l → RowsFit f.func inputs → PlanIsSound l s t (length inputs) → IsSized new.bench → length new.bench.tracks ≡ length new.bench.layout.outs → (p : Result (Unit {0}) LinkErr) →
      LinkCounted mid.faults fabric'.faults p → OnOk p PlayedAll → (r : Result (Replayed M) LinkErr) → EndsPlay (ReplayIsTaken new.bench) p r → HasReplayedList mch l s t inputs events fabric fabric' r
  comes_to f placed fit networks sized tracks (Ok x) cause played (Ok taken) ends = record {
    replays = replayed_at ctl mch l s t inputs fabric' old new ms cs is f placed fit networks sized tracks taken ends events (last played);
    cause = cause_on (Ok x) cause;
    sound = steady;
    keeps = promises;
    opens = record { calls = one_call; done = same_opens };
  }
  comes_to f placed fit networks sized tracks (Ok x) cause played (Err e) ends =
      subst (λ d. HasReplayedList mch l s t inputs events fabric fabric' (Err d)) (sym ends)
      (record { replays = tt; cause = cause_on (Ok x) cause; sound = steady; keeps = promises; opens = record { calls = one_call; done = tt } })
  comes_to f placed fit networks sized tracks (Err e) cause played r ends =
      subst (λ answer. HasReplayedList mch l s t inputs events fabric fabric' answer) (sym ends)
      (record { replays = tt; cause = cause_on (Err e) cause; sound = steady; keeps = promises; opens = record { calls = one_call; done = tt } })

-- the same of an equal layout, shape and timing
pub of_equals : {M : Type 0} (mch : Machines M) (l l' : Layout) (s s' : Shape) (t t' : Timing) (inputs : List (List Value)) (seed horizon : ℕ) (fabric fabric' : FabricState) (r : Result (Replayed M) LinkErr) → l' ≡ l → s' ≡ s → t' ≡ t →
    HasReplayedList mch l' s' t' inputs (drawn s' t' (length inputs) seed horizon) fabric fabric' r → HasReplayedList mch l s t inputs (drawn s t (length inputs) seed horizon) fabric fabric' r
of_equals mch l l' s s' t t' inputs seed horizon fabric fabric' r same_layout same_shape same_timing has =
    subst (λ z. HasReplayedList mch z s t inputs (drawn s t (length inputs) seed horizon) fabric fabric' r) same_layout
    (subst (λ z. HasReplayedList mch l' z t inputs (drawn z t (length inputs) seed horizon) fabric fabric' r) same_shape
    (subst (λ z. HasReplayedList mch l' s' z inputs (drawn s' z (length inputs) seed horizon) fabric fabric' r) same_timing has))
