-- Payloads with their senders' own values, and nodes that were given the same rows.
use Rattle.std.specs.Prelude.{◌≡◌, ℕ, ◌<◌, ◌≤◌, true, List, [], length, take, slice_index_or}
use Rattle.lt_base.specs.declared.value.Value.{Value}
use Rattle.lt_arch.specs.declared.shape.Shape.{Shape}
use Rattle.lt_arch.specs.Readers.{node_count, chan_count, from_of, to_of, carries_data}
use Rattle.lt_place.specs.declared.layout.Layout.{Layout}
use Rattle.lt_net_bench.specs.Standing.{HasOwnValues}

-- the payloads that were delivered are those of their senders
pub record PayloadsAreOwn (l : Layout) (s : Shape) (inputs got : ℕ → List (List Value)) : Type 0 where
  -- message number k + 1 was delivered after its sender had executed instant k, and has its values
  pub before : (c k : ℕ) → c < chan_count s → carries_data s c ≡ true → k < length (got c) → k < length (inputs (from_of s c))
  pub own : (c k : ℕ) → c < chan_count s → carries_data s c ≡ true → k < length (got c) → HasOwnValues l s inputs got (from_of s c) (to_of s c) k (slice_index_or (got c) k [])

-- all nodes were given these rows so far
pub record AreFronts (s : Shape) (inputs : ℕ → List (List Value)) (rows : List (List Value)) : Type 0 where
  pub fronts : (n : ℕ) → n < node_count s → inputs n ≡ take (length (inputs n)) rows
  pub within : (n : ℕ) → n < node_count s → length (inputs n) ≤ length rows
