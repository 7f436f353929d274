-- What an event does to a state of the architecture, and to lists, as nodes and channels see it.
use Rattle.std.specs.Prelude.{◌≡◌, ◌≢◌, ℕ, ◌+◌, ◌-◌, ◌<◌, ◌≤◌, ◌==◌, ◌&&◌, true, false, List, [], ◌∷◌, ◌++◌, length, slice_set, if◌then◌else◌}
use Rattle.lt_base.specs.declared.value.Value.{Value}
use Rattle.lt_arch.specs.declared.event.Deed.{Deed}
use Rattle.lt_arch.specs.declared.shape.Shape.{Shape}
use Rattle.lt_arch.specs.State.{State, Phase, executed_of, sent_of}
use Rattle.lt_arch.specs.Readers.{chan_count, to_of, carries_data}
use Rattle.lt_arch.specs.Step.{is_execute, is_send}
use Rattle.lt_place.specs.declared.layout.Layout.{Layout}
use Rattle.lt_place.specs.Layout.{crossing_of}
use Rattle.lt_net_node.specs.Payloads.{payloads_between}

-- no channel is more than one message ahead of its receiver, or behind it: all that a bit needs to tell what counts tell
pub record IsAhead (s : Shape) (st : State) : Type 0 where
  -- a data channel has delivered the receiver's executed count or one less
  pub data_low : (c : ℕ) → c < chan_count s → carries_data s c ≡ true → executed_of st (to_of s c) ≤ (st.chan c).delivered + 1
  pub data_high : (c : ℕ) → c < chan_count s → carries_data s c ≡ true → (st.chan c).delivered ≤ executed_of st (to_of s c)
  -- an acknowledgement channel has delivered the receiver's sent count or one more
  pub ack_low : (c : ℕ) → c < chan_count s → carries_data s c ≡ false → sent_of st (to_of s c) ≤ (st.chan c).delivered
  pub ack_high : (c : ℕ) → c < chan_count s → carries_data s c ≡ false → (st.chan c).delivered ≤ sent_of st (to_of s c) + 1

-- node n acted: its counts go on by its deed, its phase is this one, and nothing else changed
pub record ActsOn (n : ℕ) (deed : Deed) (phase : Phase) (old new : State) : Type 0 where
  pub executed : (i : ℕ) → executed_of new i ≡ executed_of old i + (if (i == n) && is_execute deed then 1 else 0)
  pub sent : (i : ℕ) → sent_of new i ≡ sent_of old i + (if (i == n) && is_send deed then 1 else 0)
  pub here : (new.node n).phase ≡ phase
  pub elsewhere : (i : ℕ) → i ≢ n → (new.node i).phase ≡ (old.node i).phase
  pub delivered : (c : ℕ) → (new.chan c).delivered ≡ (old.chan c).delivered

-- channel ch delivered one message more, and nothing else changed
pub record DeliversOn (ch : ℕ) (old new : State) : Type 0 where
  pub nodes : (n : ℕ) → new.node n ≡ old.node n
  pub here : (new.chan ch).delivered ≡ (old.chan ch).delivered + 1
  pub elsewhere : (c : ℕ) → c ≢ ch → (new.chan c).delivered ≡ (old.chan c).delivered

-- no node acted, and no message that is new was delivered
pub record StaysOn (old new : State) : Type 0 where
  pub nodes : (n : ℕ) → new.node n ≡ old.node n
  pub delivered : (c : ℕ) → (new.chan c).delivered ≡ (old.chan c).delivered

-- no list has changed
abbrev pub NoListChanged : (old new : ℕ → List (List Value)) → Type 0
NoListChanged old new = (i : ℕ) → new i ≡ old i

-- one node's list has grown by a row
pub record GrowsByRow (old new : ℕ → List (List Value)) (n : ℕ) (row : List Value) : Type 0 where
  pub there : new n ≡ old n ++ row ∷ []
  pub elsewhere : (i : ℕ) → i ≢ n → new i ≡ old i

-- one channel's list has grown by a payload
pub record Gets (old new : ℕ → List (List Value)) (ch : ℕ) (payload : List Value) : Type 0 where
  pub there : new ch ≡ old ch ++ payload ∷ []
  pub elsewhere : (c : ℕ) → c ≢ ch → new c ≡ old c

-- the last payload of one channel's list gave way to this one
pub record Replaces (old new : ℕ → List (List Value)) (ch : ℕ) (payload : List Value) : Type 0 where
  pub there : new ch ≡ slice_set (old ch) (length (old ch) - 1) payload
  pub elsewhere : (c : ℕ) → c ≢ ch → new c ≡ old c

-- each node has at most one row more than each channel to it has payloads
abbrev pub HasEnough : Layout → Shape → (inputs got : ℕ → List (List Value)) → Type 0
HasEnough l s inputs got = (c : ℕ) → c < length l.cross → length (inputs (crossing_of l c).to) ≤ length (payloads_between s got (crossing_of l c).from (crossing_of l c).to) + 1
