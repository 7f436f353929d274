-- A fabric in memory.
use Rattle.std.specs.Prelude.{true, false, []}
use Rattle.lt_io.specs.FabricState.{FabricState}
use Rattle.lt_io.specs.ChannelState.{waiting_at, kinds_of}
use Rattle.lt_io.specs.Calls.{never_fails}
use Rattle.lt_io.specs.declared.calls.Calls.{Calls}
use Rattle.lt_io.specs.declared.mem_fabric.MemFabric.{MemFabric}

abbrev pub mem_fabric_state : MemFabric → FabricState
mem_fabric_state m = record { faithful = true; prompt = true; sound = never_fails m.calls; told = false; kinds = kinds_of m.channels.items; transit = waiting_at m.channels.items; sent = λ _. []; delivered = λ _. []; opens = m.openings.count; faults = m.calls.faults }

-- the calls on this fabric
abbrev pub fabric_calls : MemFabric → Calls
fabric_calls m = m.calls
