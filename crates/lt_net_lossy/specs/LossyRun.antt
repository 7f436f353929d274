-- What a run along a schedule over links that lose messages comes to, by the architecture, the layout and the program.
use Rattle.std.specs.Prelude.{◌≡◌, ℕ, ◌<◌, ◌≤◌, min, true, IsTrue, List, [], length, take, Some, slice_get, slice_index_or}
use Rattle.lt_base.specs.declared.value.Value.{Value}
use Rattle.lt_base.specs.declared.value.Cell.{Cell}
use Rattle.lt_base.specs.Meaning.{stream_of}
use Rattle.lt_base.specs.Behaviour.{RowsFit}
use Rattle.lt_arch.specs.declared.shape.Shape.{Shape}
use Rattle.lt_arch.specs.declared.timing.Timing.{Timing}
use Rattle.lt_arch.specs.Readers.{node_count, chan_count, from_of, to_of, carries_data}
use Rattle.lt_io.specs.FabricState.{FabricState}
use Rattle.lt_norm.specs.Flat.{Originated}
use Rattle.lt_place.specs.declared.layout.Layout.{Layout}
use Rattle.lt_place.specs.Layout.{IsPlaced, PartGives, part_of}
use Rattle.lt_lossy.specs.declared.event.LossyEvent.{LossyEvent}
use Rattle.lt_lossy.specs.State.{LossyState}
use Rattle.lt_lossy.specs.Schedule.{IsLossyAdmissible, LossyEndsAt, lossy_reached}
use Rattle.lt_lossy.specs.Laws.{lossy_bound}
use Rattle.lt_net_node.specs.Local.{fed_row, firsts, local_stream}
use Rattle.lt_net_bench.specs.Own.{PayloadsAreOwn}
use Rattle.lt_net_node.specs.Payloads.{payloads_between, row_at}
use Rattle.lt_net_bench.specs.Standing.{HasOwnValues}
use Rattle.lt_net_lossy.specs.Holds.{AreSent}
use Rattle.lt_net_lossy.specs.Told.{IsToldLossy, messages_of}
use Rattle.lt_machine.specs.declared.machine.Machine.{Ghosts as Machines}

-- how many instants node n has executed
abbrev pub executed_in : LossyState → (n : ℕ) → ℕ
executed_in st n = (st.node n).executed

-- the input rows of node n: the first ones, one for each instant that it has executed
abbrev pub rows_in : LossyState → List (List Value) → (n : ℕ) → List (List Value)
rows_in st inputs n = take (executed_in st n) inputs

-- on channel c, if it carries data, the payload of message k + 1 has its sender's own values of instant k
abbrev pub IsOwnOn : Layout → Shape → LossyState → (inputs : List (List Value)) → (got : ℕ → List (List Value)) → (c k : ℕ) → List Value → Type 0
IsOwnOn l s st inputs got c k payload = carries_data s c ≡ true → HasOwnValues l s (rows_in st inputs) got (from_of s c) (to_of s c) k payload

-- these cells are those of the outputs at the end of the events, and the fabric is as it is there
pub record IsLossyRun (l : Layout) (s : Shape) (t : Timing) (losses : ℕ) (inputs : List (List Value)) (fabric : FabricState) (events : List LossyEvent) (cells : List (List Cell)) (horizon : ℕ) : Type 0 where
  pub admissible : IsLossyAdmissible s t losses (length inputs) events
  pub ends : LossyEndsAt s t (length inputs) events horizon
  -- a payload of each channel's messages from the first to the newest that was delivered, each once however often it came: that of its last
  -- copy before the receiver ran on it
  pub got : ℕ → List (List Value)
  pub given : (c : ℕ) → c < chan_count s → length (got c) ≡ ((lossy_reached s t (length inputs) events).link c).newest
  -- each output of `main` has the stream of its node's part on those, with a cell for each instant that the node has executed
  pub columns : length cells ≡ length l.outs
  pub local : (y n x : ℕ) → y < length l.outs → n < length l.nodes → PartGives (part_of l n) (slice_index_or l.outs y 0) x →
      slice_index_or cells y [] ≡ local_stream l (payloads_between s got) n (row_at inputs) (executed_in (lossy_reached s t (length inputs) events) n) x
  -- the fabric has in transit what the architecture leaves there, in order: of each number a message with the number's bit, as its sender sent it
  pub in_transit : (c : ℕ) → c < chan_count s → AreSent (IsOwnOn l s (lossy_reached s t (length inputs) events) inputs got c) ((lossy_reached s t (length inputs) events).link c).transit (fabric.transit c)
  pub told : IsTrue fabric.told → IsToldLossy s t (length inputs) events got fabric
  -- of all messages that were sent, in order, it tells one with the bit of its number, as its sender sent it
  pub sent : IsTrue fabric.told → (c : ℕ) → c < chan_count s →
      AreSent (IsOwnOn l s (lossy_reached s t (length inputs) events) inputs got c) (messages_of s t (length inputs) c events) (fabric.sent c)
  -- over a faithful fabric what was delivered has the senders' own values, and the cells are the first of the whole program's stream
  pub own : IsTrue fabric.faithful → PayloadsAreOwn l s (rows_in (lossy_reached s t (length inputs) events) inputs) got
  pub fronts : (f : Originated) → IsPlaced f l → RowsFit f.func inputs → IsTrue fabric.faithful →
      (y n x : ℕ) → y < length l.outs → n < length l.nodes → PartGives (part_of l n) (slice_index_or l.outs y 0) x →
      slice_index_or cells y [] ≡ take (executed_in (lossy_reached s t (length inputs) events) n) (stream_of [] f.func inputs (slice_index_or l.outs y 0))
  -- and there are at least as many as the bound for so many losses in a row, or one for each row
  pub enough : (n : ℕ) → n < node_count s → min (lossy_bound t losses n horizon) (length inputs) ≤ executed_in (lossy_reached s t (length inputs) events) n

-- there is a machine for each node, and it has run its part on the node's inputs and on what was delivered
pub record HasLossySteps {M : Type 0} (mch : Machines M) (l : Layout) (s : Shape) (t : Timing) (inputs : List (List Value)) (events : List LossyEvent) (got : ℕ → List (List Value)) (ms : List M) : Type 0 where
  pub count : length ms ≡ length l.nodes
  pub steps : (n : ℕ) (m : M) → slice_get ms n ≡ Some m → mch.made m ≡ executed_in (lossy_reached s t (length inputs) events) n
  pub stand : (n : ℕ) (m : M) → slice_get ms n ≡ Some m →
      mch.stands m (part_of l n).flat.func (firsts (λ k. fed_row l (payloads_between s got) n (row_at inputs k) k) (executed_in (lossy_reached s t (length inputs) events) n))
