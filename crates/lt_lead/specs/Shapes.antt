-- The shape in which a node leads.
use Rattle.std.specs.Prelude.{◌≡◌, ◌≢◌, ℕ, ◌<◌, true}
use Rattle.lt_arch.specs.declared.shape.Shape.{Shape}
use Rattle.lt_arch.specs.Readers.{node_count, chan_count, carries_data}
use Rattle.lt_arch.specs.Shapes.{IsLinked}

-- data channels alone, one of them from the leader to every other node
pub record IsLeaderShape (s : Shape) (leader : ℕ) : Type 0 where
  pub leader_in : leader < node_count s
  pub only_data : (c : ℕ) → c < chan_count s → carries_data s c ≡ true
  pub linked : (j : ℕ) → j < node_count s → leader ≢ j → IsLinked s leader j
