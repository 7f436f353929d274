-- The window: how many messages of a channel are in transit at most.
use Rattle.std.specs.Prelude.{◌≡◌, ◌≢◌, ℕ, ◌*◌, ◌<◌, ◌≤◌, length}
use Rattle.lt_arch.specs.declared.timing.Timing.{Timing}
use Rattle.lt_arch.specs.Readers.{tmin_of, dmax_of}
use Rattle.lt_lossy.specs.declared.room.WindowFault.{WindowFault}

-- a channel has room for so many
abbrev pub room : ℕ
room = 64

-- within the greatest delay from node i to node j node i is activated fewer than so many times after an activation
abbrev pub IsInWindow : Timing → (i j : ℕ) → Type 0
IsInWindow t i j = dmax_of t i j < room * tmin_of t i

-- and so for each pair of different nodes
abbrev pub HasWindow : Timing → Type 0
HasWindow t = (i j : ℕ) → i < length t.nodes → j < length t.nodes → i ≢ j → IsInWindow t i j

-- the pair from node i to some other is not in the window, with these two sides, and each pair from i to a lower node is
pub record IsFaultFrom (t : Timing) (i : ℕ) (f : WindowFault) : Type 0 where
  pub other : ℕ
  pub other_in : other < length t.nodes
  pub differ : i ≢ other
  pub node_is : f.node ≡ i
  pub left_is : f.left ≡ room * tmin_of t i
  pub right_is : f.right ≡ dmax_of t i other
  pub fails : f.left ≤ f.right
  pub before : (j : ℕ) → j < other → i ≢ j → IsInWindow t i j

-- the first pair that is not, by the first node and then by the second
pub record IsWindowFault (t : Timing) (f : WindowFault) : Type 0 where
  pub node_in : f.node < length t.nodes
  pub fault : IsFaultFrom t f.node f
  pub before : (i j : ℕ) → i < f.node → j < length t.nodes → i ≢ j → IsInWindow t i j
