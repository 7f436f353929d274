-- A fabric that changes what it carries.
use Rattle.std.specs.Prelude.{true, false}
use Rattle.lt_io.specs.FabricState.{FabricState}
use Rattle.lt_io.specs.FlipState.{flip_kinds, transit_at, sent_at, delivered_at}
use Rattle.lt_io.specs.declared.flip_fabric.FlipFabric.{FlipFabric}

abbrev pub flip_fabric_state : FlipFabric → FabricState
flip_fabric_state f = record { faithful = false; prompt = false; sound = true; told = true; kinds = flip_kinds f.channels.items; transit = transit_at f.channels.items; sent = sent_at f.channels.items; delivered = delivered_at f.channels.items; opens = f.openings.count; faults = 0 }
