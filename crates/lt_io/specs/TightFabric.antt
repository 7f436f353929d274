-- A fabric of which one send finds no memory.
use Rattle.std.specs.Prelude.{◌≡◌, ℕ, ◌+◌, ◌-◌, ◌^◌, min, false}
use Rattle.lt_io.specs.FabricState.{FabricState}
use Rattle.lt_io.specs.MemFabric.{mem_fabric_state}
use Rattle.lt_io.specs.declared.tight_fabric.TightFabric.{TightFabric}

abbrev pub tight_fabric_state : TightFabric → FabricState
tight_fabric_state t = record (mem_fabric_state t.fabric) { prompt = false }

-- the number of the next send, counted from 1; the count stops at its last value
abbrev pub next_send : TightFabric → ℕ
next_send t = min (t.sends + 1) (2 ^ 64 - 1)

-- the number of the send that finds no memory
abbrev pub tight_at : TightFabric → ℕ
tight_at t = t.at

-- one send more
pub record CountsSend (old new : TightFabric) : Type 0 where
  pub sends : new.sends ≡ next_send old
  pub at : new.at ≡ old.at

-- no send more
pub record KeepsSends (old new : TightFabric) : Type 0 where
  pub sends : new.sends ≡ old.sends
  pub at : new.at ≡ old.at
