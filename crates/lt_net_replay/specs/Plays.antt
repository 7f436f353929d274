-- What a net along a schedule keeps.
use Rattle.std.specs.Prelude.{◌≡◌, ◌<◌, ◌≤◌, ◌+◌, ◌*◌, ◌^◌, ℕ, List, All, IsTrue, None, length, map}
use Rattle.lt_base.specs.declared.value.Value.{Value}
use Rattle.lt_base.specs.Inputs.{InputTable}
use Rattle.lt_arch.specs.declared.event.Event.{Event}
use Rattle.lt_arch.specs.Readers.{node_count, chan_count}
use Rattle.lt_io.specs.FabricState.{FabricState, KeepsFabric}
use Rattle.lt_net.specs.NetModel.{NetState}
use Rattle.lt_net.specs.Event.{SameStatic}
use Rattle.lt_net.specs.Loop.{KeptOfLists, ReplayIsGiven}
use Rattle.lt_net.specs.Ticks.{event_cost}
use Rattle.lt_machine.specs.declared.machine.Machine.{Ghosts as Machines}
use Rattle.lt_arch.specs.declared.controller.Controller.{Ghosts as Controls}
use Rattle.lt_net_start.specs.Reads.{CanRead}

-- the net runs and, with its fabric, stands for these events, which took so many steps
pub record Plays {C M : Type 0} (ctl : Controls C) (mch : Machines M) (inputs : List (List Value)) (before : List Event) (steps : ℕ) (net : NetState C M) (fabric : FabricState) : Type 0 where
  pub running : net.stopped ≡ None
  pub given : ReplayIsGiven net.bench inputs
  pub kept : KeptOfLists ctl mch inputs before net.bench fabric
  pub few_nodes : node_count net.bench.shape < 2 ^ 32
  pub few_channels : chan_count net.bench.shape < 2 ^ 32
  pub costs : (d most : ℕ) → node_count net.bench.shape + chan_count net.bench.shape ≤ 2 ^ d → All (λ k. k ≤ most) (map mch.size net.bench.machines) → steps ≤ length before * event_cost net.bench.shape d most

-- so it does on inputs that it can read
pub record IsPlaying {C M : Type 0} (ctl : Controls C) (mch : Machines M) (inputs : InputTable) (width : ℕ) (room : List Value) (before : List Event) (steps : ℕ) (net : NetState C M) (fabric : FabricState) : Type 0 where
  pub reads : CanRead inputs width room
  pub plays : Plays ctl mch inputs.rows before steps net fabric

-- what no event changes
pub record KeepsPlay {C M : Type 0} (size : M → ℕ) (old new : NetState C M) (inputs later : List (List Value)) (fabric fabric' : FabricState) : Type 0 where
  pub fixed : SameStatic old.bench new.bench
  pub sizes : map size new.bench.machines ≡ map size old.bench.machines
  pub inputs_are : later ≡ inputs
  pub fabric_kept : KeepsFabric fabric fabric'
  -- the count of a sound fabric stays
  pub steady : IsTrue fabric.sound → fabric'.faults ≡ fabric.faults
