-- What a fabric tells of its messages, along events over links that lose messages.
use Rattle.std.specs.Prelude.{◌≡◌, ℕ, suc, ◌+◌, ◌<◌, ◌==◌, Bool, true, false, List, [], ◌∷◌, ◌++◌, length, take, Some, slice_get, slice_index_or, if◌then◌else◌}
use Rattle.lt_base.specs.declared.value.Value.{Value}
use Rattle.lt_arch.specs.declared.event.Deed.TheVariants.{Execute}
use Rattle.lt_arch.specs.declared.event.Event.TheVariants.{Act, Del, End}
use Rattle.lt_arch.specs.declared.shape.Shape.{Shape}
use Rattle.lt_arch.specs.declared.timing.Timing.{Timing}
use Rattle.lt_arch.specs.Deeds.{deed_at}
use Rattle.lt_arch.specs.Step.{woken}
use Rattle.lt_arch.specs.Readers.{chan_count, to_of, carries_data}
use Rattle.lt_io.specs.declared.message.Message.{Message}
use Rattle.lt_io.specs.FabricState.{FabricState}
use Rattle.lt_link.specs.Bits.{bit_of, differ}
use Rattle.lt_lossy.specs.declared.event.LossyEvent.{LossyEvent}
use Rattle.lt_lossy.specs.declared.event.LossyEvent.TheVariants.{Plain, Lose}
use Rattle.lt_lossy.specs.State.{Message as Numbered, LossyState, lossy_start, number_on, plain_of}
use Rattle.lt_lossy.specs.Step.{lossy_after, sends_number}
use Rattle.lt_lossy.specs.Schedule.{lossy_reached}
use Rattle.lt_net_lossy.specs.Event.{is_unread}

-- the fate of the message that leaves channel c at an event: true where it was delivered, and false where it was lost
abbrev pub fate_of : (c : ℕ) → LossyEvent → List Bool
fate_of c (Plain (Act n at)) = []
fate_of c (Plain (Del d at)) = if d == c then true ∷ [] else []
fate_of c (Plain (End at)) = []
fate_of c (Lose d at) = if d == c then false ∷ [] else []

-- the fates of the messages that left channel c, in order
abbrev pub fates_of : (c : ℕ) → List LossyEvent → List Bool
fates_of c [] = []
fates_of c (e ∷ es) = fate_of c e ++ fates_of c es

-- the message that an event sends on channel c, if it sends one: where the channel's sender is activated, that of the number that it counts there then
abbrev pub message_by : Shape → Timing → (rows c : ℕ) → LossyState → LossyEvent → List Numbered
message_by s t rows c st (Plain (Act n at)) =
    if sends_number s n (woken s t rows (plain_of st) n at) c then record { number = number_on s (woken s t rows (plain_of st) n at) c; sent_at = at } ∷ [] else []
message_by s t rows c st (Plain (Del d at)) = []
message_by s t rows c st (Plain (End at)) = []
message_by s t rows c st (Lose d at) = []

-- the messages that these events send on channel c, in order
abbrev pub messages_from : Shape → Timing → (rows c : ℕ) → LossyState → List LossyEvent → List Numbered
messages_from s t rows c st [] = []
messages_from s t rows c st (e ∷ es) = message_by s t rows c st e ++ messages_from s t rows c (lossy_after s t rows st e) es

abbrev pub messages_of : Shape → Timing → (rows c : ℕ) → List LossyEvent → List Numbered
messages_of s t rows c es = messages_from s t rows c lossy_start es

-- a message, if it is kept
abbrev pub kept_if : Bool → Message → List Message
kept_if is_kept m = if is_kept then m ∷ [] else []

-- of messages with these fates those that were delivered
abbrev pub came : List Bool → List Message → List Message
came [] ms = []
came (fate ∷ fates) [] = []
came (fate ∷ fates) (m ∷ ms) = kept_if fate m ++ came fates ms

-- messages without copies: a copy has the bit of the one before it, and before the first one that bit is `last`
abbrev pub without_copies : (last : Bool) → List Message → List Message
without_copies last [] = []
without_copies last (m ∷ ms) = kept_if (differ m.bit last) m ++ without_copies m.bit ms

-- event number i, counted from 0, is an activation of node n in which it executes instant k
pub record ExecutesAt (s : Shape) (t : Timing) (rows : ℕ) (events : List LossyEvent) (i n k : ℕ) : Type 0 where
  pub at : ℕ
  pub is : slice_get events i ≡ Some (Plain (Act n at))
  pub executes : deed_at s rows (plain_of (lossy_reached s t rows (take i events))) n ≡ Execute
  pub instant : ((lossy_reached s t rows (take i events)).node n).executed ≡ k

-- of the messages that left channel c by these events the last one that was delivered is a copy of message k, with this payload
pub record EndsInCopy (s : Shape) (t : Timing) (rows : ℕ) (events : List LossyEvent) (c k : ℕ) (left : List Message) (payload : List Value) : Type 0 where
  pub earlier : List Message
  pub last : Message
  pub are : came (fates_of c events) left ≡ earlier ++ last ∷ []
  pub payload_is : last.payload ≡ payload
  pub bit_is : last.bit ≡ bit_of k
  pub number_is : ((lossy_reached s t rows events).link c).newest ≡ k

-- what the fabric tells as taken from a channel has one message for each fate; those that were delivered, without copies, are as many as the
-- payloads that were got; and as many messages were sent as were delivered, lost or are in transit
pub record IsToldLossy (s : Shape) (t : Timing) (rows : ℕ) (events : List LossyEvent) (got : ℕ → List (List Value)) (fabric : FabricState) : Type 0 where
  pub taken : (c : ℕ) → c < chan_count s → length (fabric.delivered c) ≡ length (fates_of c events)
  pub counted : (c : ℕ) → c < chan_count s → length (without_copies false (came (fates_of c events) (fabric.delivered c))) ≡ length (got c)
  pub total : (c : ℕ) → c < chan_count s → length (fabric.sent c) ≡ length (fates_of c events) + length (fabric.transit c)
  -- a node runs instant k + 1 on the payload of the last message of each data channel to it that was delivered before the activation that
  -- executes it, and this is a copy of message k + 1
  pub ran_on : (i n k : ℕ) → ExecutesAt s t rows events i n (suc k) → (c : ℕ) → c < chan_count s → carries_data s c ≡ true → to_of s c ≡ n →
      EndsInCopy s t rows (take i events) c (suc k) (fabric.delivered c) (slice_index_or (got c) k [])
  -- where no node has run on the newest message of a channel, its payload is that of the last one that was delivered so far
  pub unread : (c k : ℕ) → c < chan_count s → is_unread s (lossy_reached s t rows events) c ≡ true → length (got c) ≡ suc k →
      EndsInCopy s t rows events c (suc k) (fabric.delivered c) (slice_index_or (got c) k [])
