-- What is in transit on the channels of a fabric.
use Rattle.std.specs.Prelude.{◌≡◌, ℕ, zero, suc, ◌<◌, true, Bool, IsTrue, List, [], ◌∷◌, ◌++◌, slice_index_or, if◌then◌else◌}
use Rattle.lt_base.specs.declared.value.Value.{Value}
use Rattle.lt_arch.specs.declared.shape.Shape.{Shape}
use Rattle.lt_arch.specs.State.{NodeState}
use Rattle.lt_arch.specs.Readers.{chan_count, from_of, to_of, carries_data}
use Rattle.lt_io.specs.declared.message.Message.{Message}
use Rattle.lt_io.specs.FabricState.{FabricState}
use Rattle.lt_link.specs.Bits.{bit_of}
use Rattle.lt_lossy.specs.State.{Message as Numbered, number_on}
use Rattle.lt_lossy.specs.Step.{sends_number}
use Rattle.lt_net_bench.specs.Standing.{HasOwnValues}
use Rattle.lt_net_lossy.specs.Net.{LossyBenchState, LossyLists, lossy_state_of}

-- message number k + 1 has the values of instant k, and no message has the number 0
abbrev pub OwnOf : (own : ℕ → List Value → Type 0) → (number : ℕ) → List Value → Type 0
OwnOf own zero payload = ⊥
OwnOf own (suc k) payload = own k payload

-- messages in order, of which each has the bit of its number, and the values of its instant
abbrev pub AreSent : (own : ℕ → List Value → Type 0) → List Numbered → List Message → Type 0
AreSent own [] [] = Unit {0}
AreSent own [] (m ∷ ms) = ⊥
AreSent own (n ∷ ns) [] = ⊥
AreSent own (n ∷ ns) (m ∷ ms) = (m.bit ≡ bit_of n.number) × OwnOf own n.number m.payload × AreSent own ns ms

-- on a channel that carries data these are its sender's own
abbrev pub OwnOn : {C M : Type 0} → LossyBenchState C M → LossyLists → (c : ℕ) → ℕ → List Value → Type 0
OwnOn net ls c k payload = carries_data net.shape c ≡ true → HasOwnValues net.layout net.shape ls.inputs ls.got (from_of net.shape c) (to_of net.shape c) k payload

-- each channel of the fabric has in transit, in order, a message of each number that the state has there, as its sender sent it
pub record HoldsLossy {C M : Type 0} (net : LossyBenchState C M) (ls : LossyLists) (fabric : FabricState) : Type 0 where
  pub transit : (c : ℕ) → c < chan_count net.shape → AreSent (OwnOn net ls c) ((lossy_state_of net ls).link c).transit (fabric.transit c)

-- what a node, which is v then, sends on a channel: the payload posted, with the bit of the number that it counts there
abbrev pub lossy_message : Shape → (v : NodeState) → (posted : List (List Value)) → (c : ℕ) → Message
lossy_message s v posted c = record { payload = slice_index_or posted c []; bit = bit_of (number_on s v c) }

-- messages with one more, if it was sent
abbrev pub with_one : Bool → List Message → Message → List Message
with_one is_sent ms m = if is_sent then ms ++ m ∷ [] else ms

-- node n, which is v then, sent on each channel where it has a number to send, and nothing else happened
pub record SendsLossy (s : Shape) (n : ℕ) (v : NodeState) (posted : List (List Value)) (old new : FabricState) : Type 0 where
  pub kinds : new.kinds ≡ old.kinds
  pub transit : (c : ℕ) → c < chan_count s → new.transit c ≡ with_one (sends_number s n v c) (old.transit c) (lossy_message s v posted c)
  pub sent : IsTrue old.told → (c : ℕ) → c < chan_count s → new.sent c ≡ with_one (sends_number s n v c) (old.sent c) (lossy_message s v posted c)
  pub delivered : IsTrue old.told → (c : ℕ) → c < chan_count s → new.delivered c ≡ old.delivered c
