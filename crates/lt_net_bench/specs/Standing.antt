-- The lists for which nodes and channels stand, where the architecture is in some state.
use Rattle.std.specs.Prelude.{◌≡◌, ℕ, suc, ◌+◌, ◌<◌, ◌≤◌, true, false, List, [], length, map, Some, slice_get, slice_index_or}
use Rattle.lt_base.specs.declared.value.Value.{Value}
use Rattle.lt_base.specs.Typing.{input_types, AllFit}
use Rattle.lt_base.specs.Meaning.{calls}
use Rattle.lt_arch.specs.State.{State, sent_of}
use Rattle.lt_arch.specs.Readers.{node_count, chan_count, from_of, to_of, carries_data}
use Rattle.lt_arch.specs.declared.shape.Shape.{Shape}
use Rattle.lt_link.specs.Bits.{bit_of}
use Rattle.lt_link.specs.Inbox.{InboxState}
use Rattle.lt_place.specs.declared.layout.Layout.{Layout}
use Rattle.lt_place.specs.Layout.{PartGives, part_of, crossing_of}
use Rattle.lt_net_node.specs.Layout.{crossing_place}
use Rattle.lt_net_node.specs.Local.{fed_row, upto, firsts, local_stream, local_value}
use Rattle.lt_net_node.specs.Payloads.{payloads_between, row_at, message_of}
use Rattle.lt_net_bench.specs.Bench.{BenchState}
use Rattle.lt_net_bench.specs.Track.{track_at, TrackState}
use Rattle.lt_machine.specs.declared.machine.Machine.{Ghosts as Machines}
use Rattle.lt_arch.specs.declared.controller.Controller.{Ghosts as Controls}

-- the payload has the values of instant k of what crosses from i to j, where node i's part ran on these rows and payloads
abbrev pub HasOwnValues : Layout → Shape → (inputs got : ℕ → List (List Value)) → ℕ → ℕ → ℕ → List Value → Type 0
HasOwnValues l s inputs got i j k payload =
    (c x : ℕ) → c < length l.cross → (crossing_of l c).from ≡ i → (crossing_of l c).to ≡ j → PartGives (part_of l i) (crossing_of l c).var x →
    local_value (calls [] 0) l (payloads_between s got) i (row_at (inputs i)) k x ≡ Some (slice_index_or payload (crossing_place l c) (crossing_of l c).first)

-- what machines have run, how often, and what they gave out: on these input rows of each node and these payloads of each channel
pub record HasRun {M : Type 0} (mch : Machines M) (l : Layout) (s : Shape) (ms : List M) (counts : List ℕ) (tracks : List TrackState) (inputs got : ℕ → List (List Value)) : Type 0 where
  -- a node has executed an instant for each of its rows
  pub executed : (n : ℕ) → n < node_count s → slice_index_or counts n 0 ≡ length (inputs n)
  -- each machine has run its part on its inputs and on what was delivered
  pub machines : (n : ℕ) (m : M) → slice_get ms n ≡ Some m → mch.stands m (part_of l n).flat.func (firsts (λ k. fed_row l (payloads_between s got) n (row_at (inputs n) k) k) (length (inputs n)))
  pub steps_made : (n : ℕ) (m : M) → slice_get ms n ≡ Some m → mch.made m ≡ length (inputs n)
  -- the cells of an output are those of its part
  pub cells : (y n x : ℕ) → y < length l.outs → n < length l.nodes → PartGives (part_of l n) (slice_index_or l.outs y 0) x →
      (track_at tracks y).cells ≡ local_stream l (payloads_between s got) n (row_at (inputs n)) (length (inputs n)) x

-- nodes and channels are where these rows and payloads, and this state, lead
pub record StandsAt {C M : Type 0} (ctl : Controls C) (mch : Machines M) (p : BenchState C M) (st : State) (inputs got : ℕ → List (List Value)) : Type 0 where
  -- the controllers and the lists are where the state is
  pub phases : (n : ℕ) (c : C) → slice_get p.controllers n ≡ Some c → ctl.phase c ≡ (st.node n).phase
  pub rows : (n : ℕ) → n < node_count p.shape → length (inputs n) ≡ (st.node n).executed
  pub messages : (c : ℕ) → c < chan_count p.shape → length (got c) ≡ (st.chan c).delivered
  -- what each part was fed with fits it
  pub fit : (n : ℕ) → n < length p.layout.nodes → AllFit (input_types (part_of p.layout n).flat.func) (upto (λ k. map Some (fed_row p.layout (payloads_between p.shape got) n (row_at (inputs n) k) k)) (length (inputs n)))
  -- the machines have run those rows, and the cells came of it
  pub ran : HasRun mch p.layout p.shape p.machines p.executed p.tracks inputs got
  pub steps_left : (n : ℕ) (m : M) → slice_get p.machines n ≡ Some m → p.rows ≤ length (inputs n) + mch.left m
  -- each inbox has the last message, its bit, and the bit last read
  pub payloads : (c : ℕ) (b : InboxState) → slice_get p.inboxes c ≡ Some b → carries_data p.shape c ≡ true → b.payload ≡ message_of p.layout p.shape got c (length (got c))
  pub bits : (c : ℕ) (b : InboxState) → slice_get p.inboxes c ≡ Some b → b.bit ≡ bit_of (length (got c))
  pub data_reads : (c : ℕ) (b : InboxState) → slice_get p.inboxes c ≡ Some b → carries_data p.shape c ≡ true → b.read ≡ bit_of (suc (st.node (to_of p.shape c)).executed)
  pub ack_reads : (c : ℕ) (b : InboxState) → slice_get p.inboxes c ≡ Some b → carries_data p.shape c ≡ false → b.read ≡ bit_of (sent_of st (to_of p.shape c))
  -- each outgoing buffer has the values of the instant last executed
  pub buffers : (c k : ℕ) → c < chan_count p.shape → carries_data p.shape c ≡ true → length (inputs (from_of p.shape c)) ≡ suc k →
      HasOwnValues p.layout p.shape inputs got (from_of p.shape c) (to_of p.shape c) k (slice_index_or p.buffers c [])
