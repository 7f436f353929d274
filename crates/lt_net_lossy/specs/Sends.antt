-- Messages sent again on many channels.
use Rattle.std.specs.Prelude.{◌≡◌, ◌≢◌, ℕ, ◌<◌, ◌&&◌, ◌==◌, nat_lt, Bool, true, IsTrue, List, [], length, slice_index_or, if◌then◌else◌}
use Rattle.lt_base.specs.declared.value.Value.{Value}
use Rattle.lt_arch.specs.declared.chan.Chan.{Chan}
use Rattle.lt_arch.specs.declared.shape.Shape.{Shape}
use Rattle.lt_arch.specs.Readers.{chan_count, from_of, carries_data}
use Rattle.lt_io.specs.declared.message.Message.{Message}
use Rattle.lt_io.specs.FabricState.{FabricState, KeepsFabric}
use Rattle.lt_link.specs.Bits.{bit_of}
use Rattle.lt_lossy.specs.Times.{LossyTimes, AreQueued, queue_at, with_last}
use Rattle.lt_lossy.specs.Window.{room}
use Rattle.lt_link.specs.Ports.{is_from}
use Rattle.lt_net.specs.Sends.{SendsOn}
use Rattle.lt_net_lossy.specs.Holds.{with_one}
use Rattle.lt_net_lossy.specs.Net.{LossyBenchState}

-- the watch has these queues, and is else as it was
pub record Queues (on : ℕ → Bool) (at : ℕ) (before after : LossyTimes) : Type 0 where
  pub queues : List (List ℕ)
  pub are : AreQueued on at before.queues queues
  pub is : after ≡ record before { queues = queues }

-- after the channels below i: on each of these its message was sent, and the watch was told of it
pub record SentUpTo (i : ℕ) (on : ℕ → Bool) (message : ℕ → Message) (at : ℕ) (old new : FabricState) (w v : LossyTimes) : Type 0 where
  pub sends : SendsOn (λ c. nat_lt c i && on c) message old new
  pub notes : Queues (λ c. nat_lt c i && on c) at w v
  pub faults : new.faults ≡ old.faults
  pub keeps : KeepsFabric old new

-- node n's channels of a kind, where there is a number to send
abbrev pub numbered_from : List Chan → (n : ℕ) → (kind : Bool) → (number : ℕ) → (c : ℕ) → Bool
numbered_from cs n kind number c = is_from cs n kind c && nat_lt 0 number

-- the payload posted, with this bit
abbrev pub posted_message : List (List Value) → (bit : Bool) → (c : ℕ) → Message
posted_message posted bit c = record { payload = slice_index_or posted c []; bit = bit }

-- the payload posted on each channel of a kind from node n was sent with this bit, and the watch was told of it
abbrev pub SendsPosted : List Chan → (n : ℕ) → (kind : Bool) → List (List Value) → (bit : Bool) → (at : ℕ) → (old new : FabricState) → (w v : LossyTimes) → Type 0
SendsPosted cs n kind posted bit at old new w v = SentUpTo (length cs) (is_from cs n kind) (posted_message posted bit) at old new w v

-- with the bit of this number, where that is one to send
abbrev pub SendsNumber : List Chan → (n : ℕ) → (kind : Bool) → List (List Value) → (number : ℕ) → (at : ℕ) → (old new : FabricState) → (w v : LossyTimes) → Type 0
SendsNumber cs n kind posted number at old new w v = SentUpTo (length cs) (numbered_from cs n kind number) (posted_message posted (bit_of number)) at old new w v

-- a channel from node n has something in transit
abbrev pub IsBehind : List Chan → (n : ℕ) → (kind : Bool) → FabricState → Type 0
IsBehind cs n kind fabric = (c : ℕ) × (c < length cs) × (fabric.transit c ≢ []) × (is_from cs n kind c ≡ true)

-- what a node that has sent and executed so many instants counts on a channel
abbrev pub counted_on : Shape → (sent executed : ℕ) → (c : ℕ) → ℕ
counted_on s sent executed c = if carries_data s c then sent else executed

-- node n, with these counts, has a number to send on the channel
abbrev pub sends_counted : Shape → (n sent executed : ℕ) → (c : ℕ) → Bool
sends_counted s n sent executed c = (from_of s c == n) && nat_lt 0 (counted_on s sent executed c)

-- the payload posted, with the bit of the number that is counted
abbrev pub counted_message : Shape → (sent executed : ℕ) → List (List Value) → (c : ℕ) → Message
counted_message s sent executed posted c = record { payload = slice_index_or posted c []; bit = bit_of (counted_on s sent executed c) }

-- the channels on which node n sends have room for one message more
abbrev pub HasRoomToSend : Shape → (n sent executed : ℕ) → LossyTimes → Type 0
HasRoomToSend s n sent executed w = (c : ℕ) → c < chan_count s → sends_counted s n sent executed c ≡ true → length (queue_at w c) < room

-- node n sent a message on each channel where it has a number to send, and the watch was told of these and of the activation
pub record SendsAgain (s : Shape) (n at newest acks : ℕ) (posted : List (List Value)) (old new : FabricState) (w v : LossyTimes) : Type 0 where
  pub queues : List (List ℕ)
  pub are : AreQueued (sends_counted s n newest acks) at w.queues queues
  pub is : v ≡ record (with_last w n at) { queues = queues }
  pub kinds : new.kinds ≡ old.kinds
  pub transit : (c : ℕ) → c < chan_count s → new.transit c ≡ with_one (sends_counted s n newest acks c) (old.transit c) (counted_message s newest acks posted c)
  pub sent : IsTrue old.told → (c : ℕ) → c < chan_count s → new.sent c ≡ with_one (sends_counted s n newest acks c) (old.sent c) (counted_message s newest acks posted c)
  pub delivered : IsTrue old.told → (c : ℕ) → c < chan_count s → new.delivered c ≡ old.delivered c

-- node n of a net sent what it posted again, by the counts of its instants
abbrev pub NodeSendsAgain : {C M : Type 0} → (old new : LossyBenchState C M) → (n at : ℕ) → (fabric fabric' : FabricState) → Type 0
NodeSendsAgain old new n at fabric fabric' = SendsAgain old.shape n at (slice_index_or old.sent n 0) (slice_index_or old.executed n 0) old.posted fabric fabric' old.watch new.watch
