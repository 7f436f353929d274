-- What a net along a list of events keeps to, and what it comes to.
use Rattle.std.specs.Prelude.{◌≡◌, ℕ, List, None, IsTrue, Result, Ok, Err, IfOk}
use Rattle.lt_base.specs.declared.value.Value.{Value}
use Rattle.lt_arch.specs.declared.event.Event.{Event}
use Rattle.lt_arch.specs.declared.shape.Shape.{Shape}
use Rattle.lt_arch.specs.declared.timing.Timing.{Timing}
use Rattle.lt_arch.specs.Step.{offence_of}
use Rattle.lt_arch.specs.Schedule.{reached}
use Rattle.lt_io.specs.Counts.{LinkCounted}
use Rattle.lt_io.specs.FabricState.{FabricState, KeepsPromises, OpensOnce}
use Rattle.lt_io.specs.declared.fault.LinkErr.{LinkErr}
use Rattle.lt_io.specs.declared.fault.LinkErr.TheVariants.{Memory}
use Rattle.lt_place.specs.declared.layout.Layout.{Layout}
use Rattle.lt_net.specs.Net.{TimedBenchState}
use Rattle.lt_net.specs.declared.replayed.Replayed.{Replayed}
use Rattle.lt_net_replay.specs.Replays.{IsReplay}
use Rattle.lt_machine.specs.declared.machine.Machine.{Ghosts as Machines}

-- the net has this shape and this timing, and takes so many rows of inputs
pub record IsNetOf {C M : Type 0} (s : Shape) (t : Timing) (count : ℕ) (net : TimedBenchState C M) : Type 0 where
  pub shape : net.shape ≡ s
  pub timing : net.timing ≡ t
  pub rows : net.rows ≡ count

-- behind these events the event has no offence
abbrev pub IsFree : {C M : Type 0} → TimedBenchState C M → (before : List Event) → Event → Type 0
IsFree net before e = offence_of net.shape net.timing (reached net.shape net.timing net.rows before) e ≡ None

-- after a play: what is taken from the net, or want of memory; else the error of the play
abbrev pub EndsPlay : {M : Type 0} → (is_taken : Replayed M → Type 0) → Result (Unit {0}) LinkErr → Result (Replayed M) LinkErr → Type 0
EndsPlay is_taken (Ok x) (Ok taken) = is_taken taken
EndsPlay is_taken (Ok x) (Err e) = e ≡ Memory
EndsPlay is_taken (Err e) result = result ≡ Err e

-- the network took these events to their end, unless a call on the fabric failed or memory was wanting
pub record HasReplayedList {M : Type 0} (mch : Machines M) (l : Layout) (s : Shape) (t : Timing) (inputs : List (List Value)) (events : List Event)
    (fabric fabric' : FabricState) (result : Result (Replayed M) LinkErr) : Type 0 where
  pub replays : IfOk result (IsReplay mch l s t inputs fabric' events)
  pub cause : LinkCounted fabric.faults fabric'.faults result
  -- the count of a sound fabric stays
  pub sound : IsTrue fabric.sound → fabric'.faults ≡ fabric.faults
  pub keeps : KeepsPromises fabric fabric'
  -- the fabric was opened at most once, and once where the events were taken
  pub opens : OpensOnce fabric fabric' result
