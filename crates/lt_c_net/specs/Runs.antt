-- Nodes that run their emitted code over links that lose nothing and change nothing.
use Rattle.std.specs.Prelude.{ℕ, ◌+◌, ◌&&◌, ◌==◌, true, false, List, [], ◌∷◌, ◌++◌, length, count_by, nat_lt, if◌then◌else◌}
use Rattle.lt_base.specs.declared.value.Cell.{Cell}
use Rattle.lt_base.specs.declared.value.Value.{Value}
use Rattle.lt_arch.specs.declared.event.Event.{Event}
use Rattle.lt_arch.specs.declared.event.Event.TheVariants.{Act, Del, End}
use Rattle.lt_arch.specs.declared.shape.Shape.{Shape}
use Rattle.lt_arch.specs.declared.timing.Timing.{Timing}
use Rattle.lt_arch.specs.Readers.{from_of, to_of}
use Rattle.lt_link.specs.Ports.{is_from}
use Rattle.lt_place.specs.declared.layout.Layout.{Layout}
use Rattle.lt_place.specs.Layout.{part_of}
use Rattle.lt_net_node.specs.Layout.{joins}
use Rattle.lt_net_node.specs.Payloads.{row_at}
use Rattle.lt_c.specs.Meaning.{Store, store_left}
use Rattle.lt_c_net.specs.Stands.{Packet, offered}
use Rattle.lt_c_net.specs.Moves.{own_row}
use Rattle.lt_c_net.specs.Laws.{taken_in}
use Rattle.lt_c_net.specs.Nets.{with_store}
use Rattle.lt_c_net.specs.Emitted.{NodeCode, init_tree, activation_tree, has_executed, has_sent, packet_for, answer_packet, told_cell}

-- a placed program, its timing, its input rows, and the code of each node
pub record Deployment : Type 0 where
  pub layout : Layout
  pub shape : Shape
  pub timing : Timing
  pub inputs : List (List Value)
  pub nodes : ℕ → NodeCode

-- what the nodes and the links have
pub record NodesRunning : Type 0 where
  -- the variables of each node
  pub stores : ℕ → Store
  -- what is on its way on each channel, the oldest first
  pub under_way : ℕ → List Packet
  -- how many input rows each node has used
  pub used : ℕ → ℕ
  -- what each node has shown of each variable of its part
  pub shown_so_far : ℕ → ℕ → List Cell

-- ---- the events

-- each node has begun, whatever its memory held before
abbrev pub begun_with : Deployment → (memory : ℕ → Store) → NodesRunning
begun_with d memory = record {
  stores = λ n. store_left (init_tree d.layout d.timing n (d.nodes n)) (memory n);
  under_way = λ c. [];
  used = λ n. 0;
  shown_so_far = λ n x. [];
}

-- node n is activated, with the inputs of its next instant at hand while rows are left
abbrev pub activated_store : Deployment → NodesRunning → (n : ℕ) → Store
activated_store d w n =
    store_left (activation_tree d.timing n (d.nodes n)) (offered (nat_lt (w.used n) (length d.inputs)) (own_row d.layout n (row_at d.inputs (w.used n))) (w.stores n))

-- what it puts on channel c where its variables are these afterwards: its message where it has sent, its acknowledgement where it has executed
abbrev pub put_on : Deployment → (n : ℕ) → Store → (c : ℕ) → List Packet
put_on d n m c =
    if is_from d.shape.channels n true c && has_sent m then packet_for (d.nodes n) (to_of d.shape c) m ∷ []
    else (if is_from d.shape.channels n false c && has_executed m then answer_packet m ∷ [] else [])

abbrev pub with_activation : Deployment → NodesRunning → (n : ℕ) → Store → NodesRunning
with_activation d w n m = record {
  stores = with_store n m w.stores;
  under_way = λ c. w.under_way c ++ put_on d n m c;
  used = λ i. if (i == n) && has_executed m then w.used i + 1 else w.used i;
  shown_so_far = λ i x. if (i == n) && has_executed m then w.shown_so_far i x ++ told_cell (part_of d.layout n).flat.func.decls x m ∷ [] else w.shown_so_far i x;
}

-- how many values the messages of a channel have
abbrev pub value_count : Deployment → (c : ℕ) → ℕ
value_count d c = count_by (joins (from_of d.shape c) (to_of d.shape c)) d.layout.cross

-- the oldest packet on channel c is delivered
abbrev pub with_delivery : Deployment → NodesRunning → (c : ℕ) → List Packet → NodesRunning
with_delivery d w c [] = w
with_delivery d w c (k ∷ ks) = record w {
  stores = λ i. taken_in d.shape.channels i c (value_count d c) k (w.stores i);
  under_way = λ e. if e == c then ks else w.under_way e;
}

-- an event, and a list of them
abbrev pub with_event : Deployment → NodesRunning → Event → NodesRunning
with_event d w (Act n at) = with_activation d w n (activated_store d w n)
with_event d w (Del c at) = with_delivery d w c (w.under_way c)
with_event d w (End at) = w

abbrev pub with_events : Deployment → NodesRunning → List Event → NodesRunning
with_events d w [] = w
with_events d w (e ∷ es) = with_events d (with_event d w e) es

-- the nodes after these events
abbrev pub emitted_run : Deployment → (memory : ℕ → Store) → List Event → NodesRunning
emitted_run d memory es = with_events d (begun_with d memory) es
