-- What a run along a schedule comes to, by the architecture, the layout and the program.
use Rattle.std.specs.Prelude.{◌≡◌, ℕ, suc, ◌+◌, ◌<◌, ◌≤◌, min, true, false, IsTrue, List, [], length, map, take, Some, slice_get, slice_index_or}
use Rattle.lt_base.specs.declared.value.Value.{Value}
use Rattle.lt_base.specs.declared.value.Cell.{Cell}
use Rattle.lt_base.specs.Program.{Function}
use Rattle.lt_base.specs.Meaning.{stream_of}
use Rattle.lt_base.specs.Behaviour.{RowsFit}
use Rattle.lt_arch.specs.declared.event.Event.{Event}
use Rattle.lt_arch.specs.declared.shape.Shape.{Shape}
use Rattle.lt_arch.specs.declared.timing.Timing.{Timing}
use Rattle.lt_arch.specs.declared.timing.Protocol.TheVariants.{TimeBased}
use Rattle.lt_arch.specs.State.{State, sent_of, executed_of}
use Rattle.lt_arch.specs.Readers.{node_count, chan_count, from_of, to_of, carries_data}
use Rattle.lt_arch.specs.Schedule.{IsAdmissible, EndsAt, reached}
use Rattle.lt_io.specs.declared.message.Message.{Message}
use Rattle.lt_io.specs.FabricState.{FabricState}
use Rattle.lt_link.specs.Bits.{bit_of}
use Rattle.lt_norm.specs.Flat.{Originated}
use Rattle.lt_place.specs.declared.layout.Layout.{Layout}
use Rattle.lt_place.specs.Layout.{IsPlaced, PartGives, part_of}
use Rattle.lt_net_node.specs.Local.{fed_row, firsts, local_stream}
use Rattle.lt_net_node.specs.Payloads.{payloads_between, row_at}
use Rattle.lt_net_bench.specs.Whole.{HasWholeValues}
use Rattle.lt_tb.specs.Rounds.{HasExactMessages}
use Rattle.lt_net.specs.Net.{Lists}
use Rattle.lt_net.specs.Owns.{OwnPayload}
use Rattle.lt_arch.specs.declared.pace.Pace.{Pace}
use Rattle.lt_lead.specs.Paced.{KeepsPace, bound_by}
use Rattle.lt_machine.specs.declared.machine.Machine.{Ghosts as Machines}

-- each node was given the first input rows, one for each instant that it has executed, and each channel has delivered so many payloads
pub record WereGiven (s : Shape) (st : State) (inputs : List (List Value)) (ls : Lists) : Type 0 where
  pub rows : (n : ℕ) → n < node_count s → ls.inputs n ≡ take (executed_of st n) inputs
  pub payloads : (c : ℕ) → c < chan_count s → length (ls.got c) ≡ (st.chan c).delivered

-- the message at a place of a list
abbrev pub message_at : List Message → (k : ℕ) → Message
message_at ms k = slice_index_or {A = Message} ms k (record { payload = []; bit = false })

-- the fabric holds in transit what the architecture leaves there, with the bits of their numbers
pub record IsLeft (s : Shape) (st : State) (ls : Lists) (fabric : FabricState) : Type 0 where
  pub count : (c : ℕ) → c < chan_count s → length (fabric.transit c) ≡ length (st.chan c).transit
  pub bits : (c k : ℕ) → c < chan_count s → k < length (fabric.transit c) → (message_at (fabric.transit c) k).bit ≡ bit_of (suc (length (ls.got c) + k))

-- what it tells is what was delivered and sent: a payload of each sent instant, with the bits of their numbers, and the senders' own values
pub record RunIsTold (l : Layout) (s : Shape) (st : State) (ls : Lists) (fabric : FabricState) : Type 0 where
  pub delivered : (c : ℕ) → c < chan_count s → map (λ (m : Message). m.payload) (fabric.delivered c) ≡ ls.got c
  pub total : (c : ℕ) → c < chan_count s → length (fabric.sent c) ≡ length (ls.got c) + length (fabric.transit c)
  pub sent_count : (c : ℕ) → c < chan_count s → carries_data s c ≡ true → length (fabric.sent c) ≡ sent_of st (from_of s c)
  pub sent_bits : (c k : ℕ) → c < chan_count s → k < length (fabric.sent c) → (message_at (fabric.sent c) k).bit ≡ bit_of (suc k)
  pub sent_own : (c k : ℕ) → c < chan_count s → carries_data s c ≡ true → k < length (fabric.sent c) →
      OwnPayload l s ls (from_of s c) (to_of s c) k (message_at (fabric.sent c) k).payload

-- what was delivered, and what is in transit, has its sender's own values of an instant that the sender has executed
pub record DeliveredAreOwn (l : Layout) (s : Shape) (ls : Lists) (fabric : FabricState) : Type 0 where
  pub before : (c k : ℕ) → c < chan_count s → carries_data s c ≡ true → k < length (ls.got c) → k < length (ls.inputs (from_of s c))
  pub own : (c k : ℕ) → c < chan_count s → carries_data s c ≡ true → k < length (ls.got c) →
      OwnPayload l s ls (from_of s c) (to_of s c) k (slice_index_or (ls.got c) k [])
  pub transit_before : (c k : ℕ) → c < chan_count s → carries_data s c ≡ true → k < length (fabric.transit c) → length (ls.got c) + k < length (ls.inputs (from_of s c))
  pub transit_own : (c k : ℕ) → c < chan_count s → carries_data s c ≡ true → k < length (fabric.transit c) →
      OwnPayload l s ls (from_of s c) (to_of s c) (length (ls.got c) + k) (message_at (fabric.transit c) k).payload

-- what was delivered, and what is in transit, has entries of the whole program's streams: message number k + 1 of a data channel entry k of each
-- variable that crosses there
pub record MessagesAreWhole (f : Function) (l : Layout) (s : Shape) (inputs : List (List Value)) (ls : Lists) (fabric : FabricState) : Type 0 where
  pub delivered : (c k : ℕ) → c < chan_count s → carries_data s c ≡ true → k < length (ls.got c) →
      HasWholeValues f l inputs (from_of s c) (to_of s c) k (slice_index_or (ls.got c) k [])
  pub under_way : (c k : ℕ) → c < chan_count s → carries_data s c ≡ true → k < length (fabric.transit c) →
      HasWholeValues f l inputs (from_of s c) (to_of s c) (length (ls.got c) + k) (message_at (fabric.transit c) k).payload

-- wherever these events lead, a node that executes an instant next has as many messages delivered on each data channel to it as it has executed
-- instants
abbrev pub ExecutesOnExactMessages : Shape → Timing → (rows : ℕ) → List Event → Type 0
ExecutesOnExactMessages s t rows events = (i : ℕ) → HasExactMessages s t rows (reached s t rows (take i events))

-- these cells are those of the outputs at the end of the events, and the fabric is as it is there
pub record IsRun (l : Layout) (s : Shape) (t : Timing) (inputs : List (List Value)) (fabric : FabricState) (events : List Event) (cells : List (List Cell)) (horizon : ℕ) : Type 0 where
  pub admissible : IsAdmissible s t (length inputs) events
  pub ends : EndsAt s t (length inputs) events horizon
  -- the events, the input rows of each node and the payloads delivered on each channel
  pub lists : Lists
  pub events_are : lists.events ≡ events
  pub given : WereGiven s (reached s t (length inputs) events) inputs lists
  -- each output of `main` has the stream of its node's part on what was delivered, with a cell for each instant that the node has executed
  pub columns : length cells ≡ length l.outs
  pub local : (y n x : ℕ) → y < length l.outs → n < length l.nodes → PartGives (part_of l n) (slice_index_or l.outs y 0) x →
      slice_index_or cells y [] ≡ local_stream l (payloads_between s lists.got) n (row_at inputs) (executed_of (reached s t (length inputs) events) n) x
  pub in_transit : IsLeft s (reached s t (length inputs) events) lists fabric
  pub told : IsTrue fabric.told → RunIsTold l s (reached s t (length inputs) events) lists fabric
  -- over a faithful fabric these are the senders' own values, and the cells are the first of the whole program's stream
  pub own : IsTrue fabric.faithful → DeliveredAreOwn l s lists fabric
  pub fronts : (f : Originated) → IsPlaced f l → RowsFit f.func inputs → IsTrue fabric.faithful →
      (y n x : ℕ) → y < length l.outs → n < length l.nodes → PartGives (part_of l n) (slice_index_or l.outs y 0) x →
      slice_index_or cells y [] ≡ take (executed_of (reached s t (length inputs) events) n) (stream_of [] f.func inputs (slice_index_or l.outs y 0))
  -- so are all messages of what crosses
  pub crosses : (f : Originated) → IsPlaced f l → RowsFit f.func inputs → IsTrue fabric.faithful → MessagesAreWhole f.func l s inputs lists fabric
  -- under the time-based protocol, with a leader or without, each instant is executed on exactly the messages before it
  pub exact : t.protocol ≡ TimeBased → ExecutesOnExactMessages s t (length inputs) events
  -- and there are at least as many as the bound of the pace that the shape and the timing are for, or one for each row
  pub enough : (pace : Pace) → KeepsPace l s t pace → (n : ℕ) → n < node_count s → min (bound_by pace t n horizon) (length inputs) ≤ executed_of (reached s t (length inputs) events) n

-- there is a machine for each node, and it has run its part on the node's inputs and on what was delivered
pub record HasSteps {M : Type 0} (mch : Machines M) (l : Layout) (s : Shape) (t : Timing) (inputs : List (List Value)) (events : List Event) (got : ℕ → List (List Value)) (ms : List M) : Type 0 where
  pub count : length ms ≡ length l.nodes
  pub steps : (n : ℕ) (m : M) → slice_get ms n ≡ Some m → mch.made m ≡ executed_of (reached s t (length inputs) events) n
  pub stand : (n : ℕ) (m : M) → slice_get ms n ≡ Some m →
      mch.stands m (part_of l n).flat.func (firsts (λ k. fed_row l (payloads_between s got) n (row_at inputs k) k) (executed_of (reached s t (length inputs) events) n))
