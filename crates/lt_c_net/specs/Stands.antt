-- The store of an emitted node, and the node of a net for which it stands.
use Rattle.std.specs.Prelude.{◌≡◌, ℕ, ◌<◌, ◌≤◌, ◌-◌, Bool, true, false, nat_eq, ℤ, List, length, map, Some, slice_get, slice_index_or}
use Rattle.std.specs.List.{list_any}
use Rattle.lt_base.specs.declared.value.Value.{Value}
use Rattle.lt_arch.specs.declared.chan.Chan.{Chan}
use Rattle.lt_arch.specs.State.{Phase, unsent}
use Rattle.lt_arch.specs.Readers.{no_chan}
use Rattle.lt_io.specs.declared.message.Message.{Message}
use Rattle.lt_link.specs.Bits.{bit_of}
use Rattle.lt_link.specs.Inbox.{InboxState, no_inbox}
use Rattle.lt_link.specs.Ports.{is_to}
use Rattle.lt_net_bench.specs.Bench.{BenchState}
use Rattle.lt_step.specs.Code.{StepCode}
use Rattle.lt_step.specs.Run.{slots_after}
use Rattle.lt_c.specs.Tree.{more, sent, executed, input, message_bit, message, answer_bit}
use Rattle.lt_c.specs.Meaning.{Store, of_truth}
use Rattle.lt_c.specs.Literals.{c_number}
use Rattle.lt_c_step.specs.Laws.{Matches}
use Rattle.lt_c_control.specs.Control.{HasPhase}
use Rattle.lt_c_control.specs.Inboxes.{payload_value, HasData, HasAck}
use Rattle.lt_arch.specs.declared.controller.Controller.{Ghosts as Controls}

-- the node that sends on channel c
abbrev pub sender : List Chan → (c : ℕ) → ℕ
sender cs c = (slice_index_or cs c no_chan).from

-- the store is where a node stands: by its phase, by how many instants it has executed, by the inboxes of all channels, and by the rows
-- that its part has run on, newest first
pub record NodeAt (cs : List Chan) (n : ℕ) (ph : Phase) (count : ℕ) (inboxes : List InboxState) (code : StepCode) (rows : List (List Value)) (m : Store) : Type 0 where
  pub phase_is : HasPhase m ph
  pub messages : (c : ℕ) → c < length cs → is_to cs n true c ≡ true → HasData m (sender cs c) (slice_index_or inboxes c no_inbox)
  pub acks : (c : ℕ) → c < length cs → is_to cs n false c ≡ true → HasAck m (sender cs c) (slice_index_or inboxes c no_inbox)
  pub slots : Matches (slots_after code (map (map Some) rows)) m
  -- the bits that alternate are those of the counts
  pub executed_is : m executed ≡ of_truth (bit_of count)
  pub sent_is : m sent ≡ of_truth (bit_of (count - unsent ph))
  pub counted : unsent ph ≤ count

-- node n of a net, without time
abbrev pub NodeStands : {C M : Type 0} → (ctl : Controls C) → BenchState C M → (n : ℕ) → StepCode → (rows : List (List Value)) → Store → Type 0
NodeStands {C} ctl p n code rows m =
    (c : C) × (slice_get p.controllers n ≡ Some c) × NodeAt p.shape.channels n (ctl.phase c) (slice_index_or p.executed n 0) p.inboxes code rows m

-- What the functions of an emitted file are called with.

-- the inputs of an instant are at hand, or not
abbrev pub offered : (at_hand : Bool) → List Value → Store → Store
offered at_hand row m more = of_truth at_hand
offered at_hand row m (input i) = c_number (payload_value row i)
offered at_hand row m p = m p

-- what a link carries, as numbers: the bit and the values of a message; of an acknowledgement the bit counts
pub record Packet : Type 0 where
  pub mark : ℤ
  pub values : ℕ → ℤ

-- it is this message
pub record Carries (k : Packet) (msg : Message) : Type 0 where
  pub mark_is : k.mark ≡ of_truth msg.bit
  pub values_are : (i : ℕ) → i < length msg.payload → k.values i ≡ c_number (payload_value msg.payload i)

-- a message has come, or an acknowledgement
abbrev pub handed : Packet → Store → Store
handed k m message_bit = k.mark
handed k m (message i) = k.values i
handed k m answer_bit = k.mark
handed k m p = m p

-- What an emitted node knows of the shape.

-- these are the nodes from which channels of a kind lead to node n
pub record ListsSenders (cs : List Chan) (n : ℕ) (kind : Bool) (js : List ℕ) : Type 0 where
  pub all : (c : ℕ) → c < length cs → is_to cs n kind c ≡ true → list_any (nat_eq (sender cs c)) js ≡ true
  pub only : (j : ℕ) → list_any (nat_eq j) js ≡ true → (c : ℕ) × (c < length cs) × (is_to cs n kind c ≡ true) × (sender cs c ≡ j)

-- from no node two channels of a kind lead to node n
abbrev pub OneEach : List Chan → (n : ℕ) → (kind : Bool) → Type 0
OneEach cs n kind = (c d : ℕ) → c < length cs → d < length cs → is_to cs n kind c ≡ true → is_to cs n kind d ≡ true → sender cs c ≡ sender cs d → c ≡ d
