-- How a net answers an event without an offence.
use Rattle.std.specs.Prelude.{◌≡◌, ℕ, ◌+◌, ◌^◌, ◌≤◌, List, map, Option, None, IsTrue, Result, OnOk, OnErr, IsErrOf}
use Rattle.lt_base.specs.declared.value.Value.{Value}
use denote.Bor.{Bor}
use Rattle.lt_arch.specs.declared.event.Event.{Event}
use Rattle.lt_arch.specs.declared.event.Event.TheVariants.{Act, Del}
use Rattle.lt_arch.specs.declared.shape.Shape.{Shape}
use Rattle.lt_arch.specs.declared.timing.Timing.{Timing}
use Rattle.lt_arch.specs.State.{State}
use Rattle.lt_arch.specs.Readers.{node_count, chan_count}
use Rattle.lt_arch.specs.Schedule.{IsEventOf}
use Rattle.lt_arch.specs.Step.{offence_of}
use Rattle.lt_arch.specs.Times.{HasTimes}
use Rattle.lt_io.specs.declared.fault.LinkErr.{LinkErr}
use Rattle.lt_io.specs.declared.fault.LinkErr.TheVariants.{Memory as NoMemory}
use Rattle.lt_io.specs.Counts.{LinkCounted}
use Rattle.lt_io.specs.FabricState.{FabricState, KeepsFabric}
use Rattle.lt_net_node.specs.Wakes.{AreConfigured}
use Rattle.lt_net.specs.Net.{TimedBenchState, Lists}
use Rattle.lt_net.specs.Stands.{NetStands}
use Rattle.lt_net.specs.Kept.{Kept, IsSized, NetHasRoom}
use Rattle.lt_net.specs.Given.{IsRowFor}
use Rattle.lt_net.specs.Halts.{HasHalted}
use Rattle.lt_net.specs.Ticks.{cost_by}
use Rattle.lt_net.specs.Event.{FabricHolds, HasKinds, SameStatic, EventIsTaken, given_row}
use Rattle.lt_machine.specs.declared.machine.Machine.{Ghosts as Machines}
use Rattle.lt_arch.specs.declared.controller.Controller.{Ghosts as Controls}

-- an event can be taken: the net stands and has room, the event has no offence, the fabric holds what is on its way, and a row is given where one is needed
pub record CanTake {C M : Type 0} (ctl : Controls C) (mch : Machines M) (net : TimedBenchState C M) (e : Event) (row : Option (List Value)) (fabric : FabricState) : Type 0 where
  pub kept : Kept ctl mch net
  pub room : NetHasRoom net
  pub configured : AreConfigured ctl net.timing net.controllers
  pub event : IsEventOf net.shape e
  pub passes : (s : Shape) (t : Timing) (st : State) → HasTimes net.watch s t st → offence_of s t st e ≡ None
  pub kinds : HasKinds net fabric
  pub holds : FabricHolds net fabric
  pub has_row : IsRowFor net e row

-- it was taken, or a call on the fabric failed: then machines, counts and cells are those of lists that the net stood for, or of the acting node's instant more
pub record AnswersEvent {C M : Type 0} (ctl : Controls C) (mch : Machines M) (old new : TimedBenchState C M) (e : Event) (row : Option (List Value)) (fabric fabric' : FabricState) (steps steps' : ℕ) (result : Result (Unit {0}) LinkErr) : Type 0 where
  pub taken : OnOk result (EventIsTaken ctl mch old new e row fabric fabric')
  pub halted : OnErr result ((ls : Lists) → NetStands ctl mch old ls → HasHalted mch new ls e row)
  -- what no event changes
  pub sized : IsSized new
  pub room : NetHasRoom new
  pub configured : AreConfigured ctl new.timing new.controllers
  pub sizes : map mch.size new.machines ≡ map mch.size old.machines
  pub fixed : SameStatic old new
  pub keeps : KeepsFabric fabric fabric'
  -- the count of faults rises where a call failed, and over a sound fabric never
  pub cause : LinkCounted fabric.faults fabric'.faults result
  pub sound : IsTrue fabric.sound → fabric'.faults ≡ fabric.faults
  pub prompt : IsTrue fabric.prompt → IsErrOf result NoMemory → ⊥
  pub ticks : (ls : Lists) → NetStands ctl mch old ls → (d : ℕ) → node_count old.shape + chan_count old.shape ≤ 2 ^ d → steps' ≤ steps + cost_by mch.size old ls e d

-- where this row is given
abbrev pub AnswersGiven : {C M : Type 0} (ctl : Controls C) (mch : Machines M) → (old new : TimedBenchState C M) → Event → Option (Bor (List Value)) →
    (fabric fabric' : FabricState) → (steps steps' : ℕ) → Result (Unit {0}) LinkErr → Type 0
AnswersGiven ctl mch old new e row fabric fabric' steps steps' result = AnswersEvent ctl mch old new e (given_row row) fabric fabric' steps steps' result

-- an activation of node n
abbrev pub AnswersAct : {C M : Type 0} (ctl : Controls C) (mch : Machines M) → (old new : TimedBenchState C M) → (n at : ℕ) → Option (Bor (List Value)) →
    (fabric fabric' : FabricState) → (steps steps' : ℕ) → Result (Unit {0}) LinkErr → Type 0
AnswersAct ctl mch old new n at row fabric fabric' steps steps' result = AnswersGiven ctl mch old new (Act n at) row fabric fabric' steps steps' result

-- a delivery on channel c, whatever row is given
abbrev pub AnswersDelivery : {C M : Type 0} (ctl : Controls C) (mch : Machines M) → (old new : TimedBenchState C M) → (c at : ℕ) →
    (fabric fabric' : FabricState) → (steps steps' : ℕ) → Result (Unit {0}) LinkErr → Type 0
AnswersDelivery ctl mch old new c at fabric fabric' steps steps' result = (row : Option (List Value)) → AnswersEvent ctl mch old new (Del c at) row fabric fabric' steps steps' result
