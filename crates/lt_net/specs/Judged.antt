-- How a net that runs answers an event.
use Rattle.std.specs.Prelude.{◌≡◌, ◌↔◌, ◌<◌, ◌≤◌, ◌+◌, ◌^◌, ℕ, List, length, map, Option, Some, None, IsTrue, Result, Err, OnOk, IsErrOf}
use denote.Bor.{Bor}
use Rattle.lt_base.specs.declared.value.Value.{Value}
use Rattle.lt_arch.specs.declared.event.Event.{Event}
use Rattle.lt_arch.specs.declared.event.Offence as arch
use Rattle.lt_arch.specs.Readers.{node_count, chan_count}
use Rattle.lt_arch.specs.Step.{offence_of}
use Rattle.lt_io.specs.FabricState.{FabricState, KeepsFabric, SameLists}
use Rattle.lt_net.specs.declared.fault.First.{First}
use Rattle.lt_net.specs.declared.fault.First.TheVariants as first
use Rattle.lt_net.specs.declared.fault.NetFault.{NetFault}
use Rattle.lt_net.specs.declared.fault.NetFault.TheVariants.{Offence as Refused, Link, Memory as NoMemory, Stopped}
use Rattle.lt_net.specs.Net.{TimedBenchState, Lists, reached_state}
use Rattle.lt_net.specs.NetModel.{NetState}
use Rattle.lt_net.specs.Stands.{NetStands}
use Rattle.lt_net.specs.Ticks.{cost_by}
use Rattle.lt_net.specs.Halts.{Halts, HasHalted}
use Rattle.lt_net.specs.Event.{FabricHolds, HasKinds, SameStatic, NetRefuses, Happens, given_row}
use Rattle.lt_machine.specs.declared.machine.Machine.{Ghosts as Machines}
use Rattle.lt_arch.specs.declared.controller.Controller.{Ghosts as Controls}

-- the answer is an offence exactly where the event has it, for all lists for which the net stands
abbrev pub TellsOffence : {C M : Type 0} (ctl : Controls C) (mch : Machines M) → TimedBenchState C M → Event → Result (Unit {0}) NetFault → Type 0
TellsOffence ctl mch net e result = (ls : Lists) → NetStands ctl mch net ls → (o : arch.Offence) → (result ≡ Err (Refused o)) ↔ (offence_of net.shape net.timing (reached_state net ls) e ≡ Some o)

-- the event costs no more steps than it may, where there are at most 2 ^ d nodes and channels
abbrev pub CostsAtMost : {C M : Type 0} (ctl : Controls C) (mch : Machines M) → TimedBenchState C M → Event → (before now : ℕ) → Type 0
CostsAtMost ctl mch net e before now = (ls : Lists) → NetStands ctl mch net ls → (d : ℕ) → node_count net.shape + chan_count net.shape ≤ 2 ^ d → now ≤ before + (4 + cost_by mch.size net ls e d)

-- the event happened, for all lists for which the net stood
abbrev pub HappensOn : {C M : Type 0} (ctl : Controls C) (mch : Machines M) → (old new : TimedBenchState C M) → Event → Option (List Value) → (fabric fabric' : FabricState) → Type 0
HappensOn ctl mch old new e row fabric fabric' = Happens (NetStands ctl mch old) (NetStands ctl mch new) old e row fabric fabric'

-- where this row was given
abbrev pub HappensBy : {C M : Type 0} (ctl : Controls C) (mch : Machines M) → (old new : TimedBenchState C M) → Event → Option (Bor (List Value)) → (fabric fabric' : FabricState) → Type 0
HappensBy ctl mch old new e row fabric fabric' = HappensOn ctl mch old new e (given_row row) fabric fabric'

-- what a fault left, for all lists for which the net stood
abbrev pub LeavesHalted : {C M : Type 0} (ctl : Controls C) (mch : Machines M) → (old new : TimedBenchState C M) → Event → Option (List Value) → Type 0
LeavesHalted ctl mch old new e row = (ls : Lists) → NetStands ctl mch old ls → HasHalted mch new ls e row

-- the event has an offence, and nothing changed; or it was taken; or a call on the fabric failed, and the net has stopped
pub record AnswersJudged {C M : Type 0} (ctl : Controls C) (mch : Machines M) (old new : NetState C M) (e : Event) (row : Option (List Value)) (fabric fabric' : FabricState) (steps steps' : ℕ) (result : Result (Unit {0}) NetFault) : Type 0 where
  pub runs : (f : First) → result ≡ Err (Stopped f) → ⊥
  pub offence : TellsOffence ctl mch old.bench e result
  pub link : IsErrOf result Link → fabric.faults < fabric'.faults
  pub prompt : IsTrue fabric.prompt → IsErrOf result NoMemory → ⊥
  pub calm : (IsErrOf result Link → ⊥) → fabric'.faults ≡ fabric.faults
  pub ticks : CostsAtMost ctl mch old.bench e steps steps'
  pub refusal_ticks : NetRefuses result → steps' ≤ steps + 4
  -- what a refusal leaves
  pub same : NetRefuses result → new ≡ old
  pub lists : NetRefuses result → SameLists fabric fabric'
  -- what an event that is taken does
  pub running : OnOk result (new.stopped ≡ None)
  pub happens : OnOk result (HappensOn ctl mch old.bench new.bench e row fabric fabric')
  pub holds : OnOk result (FabricHolds new.bench fabric')
  pub kinds : OnOk result (HasKinds new.bench fabric')
  -- what a fault leaves
  pub halted_link : IsErrOf result Link → new.stopped ≡ Some first.Link
  pub halted_memory : IsErrOf result NoMemory → new.stopped ≡ Some first.Memory
  pub halted : Halts result → LeavesHalted ctl mch old.bench new.bench e row
  -- what no event changes
  pub counts : length new.bench.executed ≡ node_count new.bench.shape
  pub tracks : length new.bench.tracks ≡ length new.bench.layout.outs
  pub sizes : map mch.size new.bench.machines ≡ map mch.size old.bench.machines
  pub fixed : SameStatic old.bench new.bench
  pub keeps : KeepsFabric fabric fabric'
  pub sound : IsTrue fabric.sound → fabric'.faults ≡ fabric.faults

-- where this row is given
abbrev pub JudgesGiven : {C M : Type 0} (ctl : Controls C) (mch : Machines M) → (old new : NetState C M) → Event → Option (Bor (List Value)) →
    (fabric fabric' : FabricState) → (steps steps' : ℕ) → Result (Unit {0}) NetFault → Type 0
JudgesGiven ctl mch old new e row fabric fabric' steps steps' result = AnswersJudged ctl mch old new e (given_row row) fabric fabric' steps steps' result
