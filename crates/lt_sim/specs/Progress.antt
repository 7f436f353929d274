-- How far nodes and channels are: how many instants each node has executed, and how many messages each channel has delivered.
use Rattle.std.specs.Prelude.{◌≡◌, ℕ, ◌<◌, ◌≤◌, ◌+◌, ◌&&◌, nat_lt, nat_le, Bool, true, false, length, slice_index_or}
use Rattle.lt_arch.specs.declared.shape.Shape.{Shape}
use Rattle.lt_arch.specs.Readers.{node_count, chan_count, to_of}
use Rattle.lt_sim.specs.declared.tally.Tally.{Tally}
use Rattle.lt_sim.specs.declared.progress.Progress.{Progress}
use Rattle.lt_base.specs.Truths.{how_many}
use Rattle.lt_sim.specs.Tallies.{leads_kind_to}

-- channel c has delivered at least as many messages as its receiver has executed instants, or more than that
abbrev pub fresh_by : Shape → (executed delivered : ℕ → ℕ) → (c : ℕ) → Bool
fresh_by s executed delivered c = nat_le (executed (to_of s c)) (delivered c)

abbrev pub early_by : Shape → (executed delivered : ℕ → ℕ) → (c : ℕ) → Bool
early_by s executed delivered c = nat_lt (executed (to_of s c)) (delivered c)

-- the channels of one kind are counted
pub record IsTallied (w : Tally) (s : Shape) (data_kind : Bool) (executed delivered : ℕ → ℕ) : Type 0 where
  pub wanted_length : length w.wanted.items ≡ node_count s
  pub fresh_length : length w.fresh.items ≡ node_count s
  pub early_length : length w.early.items ≡ node_count s
  pub wanted : (n : ℕ) → n < node_count s → slice_index_or w.wanted.items n 0 ≡ how_many (leads_kind_to s.channels data_kind n) (chan_count s)
  pub fresh : (n : ℕ) → n < node_count s → slice_index_or w.fresh.items n 0 ≡ how_many (λ c. leads_kind_to s.channels data_kind n c && fresh_by s executed delivered c) (chan_count s)
  pub early : (n : ℕ) → n < node_count s → slice_index_or w.early.items n 0 ≡ how_many (λ c. leads_kind_to s.channels data_kind n c && early_by s executed delivered c) (chan_count s)

-- what is kept is how far they are
pub record ProgressIsAt (p : Progress) (s : Shape) (executed delivered : ℕ → ℕ) : Type 0 where
  pub few : chan_count s < 2147483648
  pub executed_length : length p.executed.items ≡ node_count s
  pub executed_is : (n : ℕ) → n < node_count s → slice_index_or p.executed.items n 0 ≡ executed n
  pub delivered_length : length p.delivered.items ≡ chan_count s
  pub delivered_is : (c : ℕ) → c < chan_count s → slice_index_or p.delivered.items c 0 ≡ delivered c
  pub messages : IsTallied p.messages s true executed delivered
  pub acks : IsTallied p.acks s false executed delivered

-- a message more can arrive on channel c
pub record CanArrive (p : Progress) (s : Shape) (c : ℕ) : Type 0 where
  pub executed : ℕ → ℕ
  pub delivered : ℕ → ℕ
  pub is_at : ProgressIsAt p s executed delivered
  pub channel : c < chan_count s
  pub room : delivered c ≤ 4294967296

-- node n is kept, and can execute one more instant
pub record HasNode (p : Progress) (n : ℕ) : Type 0 where
  pub executed : n < length p.executed.items
  pub messages_wanted : n < length p.messages.wanted.items
  pub messages_fresh : n < length p.messages.fresh.items
  pub messages_early : n < length p.messages.early.items
  pub acks_wanted : n < length p.acks.wanted.items
  pub acks_fresh : n < length p.acks.fresh.items
  pub acks_early : n < length p.acks.early.items

-- no channel to node n has delivered more than one message that the node has not executed on
abbrev pub IsNoneAhead : Shape → (executed delivered : ℕ → ℕ) → (n : ℕ) → Type 0
IsNoneAhead s executed delivered n = (c : ℕ) → c < chan_count s → to_of s c ≡ n → delivered c ≤ executed n + 1
