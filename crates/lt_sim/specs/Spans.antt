-- Where the channels of a node stand among all.
use Rattle.std.specs.Prelude.{◌≡◌, ℕ, ◌<◌, ◌≤◌, ◌+◌, ◌&&◌, nat_lt, Bool, true, List, length, Option, Some, None, slice_get, slice_index_or, if◌then◌else◌}
use Rattle.lt_arch.specs.declared.chan.Chan.{Chan}
use Rattle.lt_arch.specs.declared.shape.Shape.{Shape}
use Rattle.lt_arch.specs.declared.timing.Timing.{Timing}
use Rattle.lt_arch.specs.Readers.{node_count, chan_count}
use Rattle.lt_sim.specs.declared.sending.Span.{Span}
use Rattle.lt_sim.specs.Drawn.{delay}
use Rattle.lt_base.specs.Truths.{how_many}
use Rattle.lt_sim.specs.Tallies.{leads_kind_from}

-- the channels of a kind from node n that stand below a number are all in the span
pub record IsSpanBelow (cs : List Chan) (data_kind : Bool) (n below : ℕ) (span : Span) : Type 0 where
  pub within : span.end ≤ below
  pub first_within : span.first ≤ below
  pub holds : (c : ℕ) → c < below → leads_kind_from cs data_kind n c ≡ true → (span.first ≤ c) × (c < span.end)

-- each node has its span
pub record AreSpans (cs : List Chan) (data_kind : Bool) (count : ℕ) (spans : List Span) : Type 0 where
  pub size : length spans ≡ count
  pub each : (n : ℕ) (span : Span) → slice_get spans n ≡ Some span → IsSpanBelow cs data_kind n (length cs) span

-- on each of these channels below a number a message was sent at a time, and the words behind the first so many drew its delay
pub record DrawsDelays (s : Shape) (t : Timing) (seed words at below : ℕ) (on : ℕ → Bool) (old new : List (Option ℕ)) : Type 0 where
  pub same_length : length new ≡ length old
  pub nodes : (n : ℕ) → n < node_count s → slice_index_or new n None ≡ slice_index_or old n None
  pub channels : (c : ℕ) → c < chan_count s → slice_index_or new (node_count s + c) None
      ≡ (if nat_lt c below && on c then Some (at + delay s t seed c (words + 1 + how_many on c)) else slice_index_or old (node_count s + c) None)
