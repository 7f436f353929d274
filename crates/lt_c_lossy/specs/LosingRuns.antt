-- Nodes that run their emitted code over links that lose messages, and change none.
use Rattle.std.specs.Prelude.{ℕ, ◌+◌, ◌&&◌, ◌==◌, true, false, List, [], ◌∷◌, ◌++◌, length, nat_lt, if◌then◌else◌}
use Rattle.lt_arch.specs.declared.event.Event.TheVariants.{Act, Del, End}
use Rattle.lt_arch.specs.Readers.{to_of}
use Rattle.lt_link.specs.Ports.{is_from}
use Rattle.lt_lossy.specs.declared.event.LossyEvent.{LossyEvent}
use Rattle.lt_lossy.specs.declared.event.LossyEvent.TheVariants.{Plain, Lose}
use Rattle.lt_place.specs.Layout.{part_of}
use Rattle.lt_net_node.specs.Payloads.{row_at}
use Rattle.lt_c.specs.Meaning.{Store, store_left}
use Rattle.lt_c_control.specs.declared.posts.Post.{Post}
use Rattle.lt_c_net.specs.Stands.{Packet, offered}
use Rattle.lt_c_net.specs.Moves.{own_row}
use Rattle.lt_c_net.specs.Nets.{with_store}
use Rattle.lt_c_net.specs.Emitted.{has_executed, told_cell}
use Rattle.lt_c_net.specs.Runs.{Deployment, NodesRunning, value_count}
use Rattle.lt_c_lossy.specs.Losing.{losing_init, losing_activation, message_again, answer_again, where_numbered, taken_newer}

-- a placed program, its timing, its input rows and the code of each node, and what each node keeps to send it again
pub record LosingDeployment : Type 0 where
  pub base : Deployment
  pub posts : ℕ → List Post

-- each node has begun, whatever its memory held before
abbrev pub begun_losing : LosingDeployment → (memory : ℕ → Store) → NodesRunning
begun_losing d memory = record {
  stores = λ n. store_left (losing_init d.base.layout n (d.base.nodes n)) (memory n);
  under_way = λ c. [];
  used = λ n. 0;
  shown_so_far = λ n x. [];
}

-- node n, where its variables are these, is activated, and has used so many rows: the inputs of its next instant are at hand while rows are left
abbrev pub acted_losing : LosingDeployment → (n used : ℕ) → Store → Store
acted_losing d n used m =
    store_left (losing_activation (d.base.nodes n) (d.posts n)) (offered (nat_lt used (length d.base.inputs)) (own_row d.base.layout n (row_at d.base.inputs used)) m)

-- what it puts on channel c after each activation: its last message, or its last acknowledgement, once there is one
abbrev pub put_again : LosingDeployment → (n : ℕ) → Store → (c : ℕ) → List Packet
put_again d n m c =
    if is_from d.base.shape.channels n true c then where_numbered (message_again (to_of d.base.shape c) (value_count d.base c) m)
    else (if is_from d.base.shape.channels n false c then where_numbered (answer_again m) else [])

abbrev pub with_acted : LosingDeployment → NodesRunning → (n : ℕ) → Store → NodesRunning
with_acted d w n m = record {
  stores = with_store n m w.stores;
  under_way = λ c. w.under_way c ++ put_again d n m c;
  used = λ i. if (i == n) && has_executed m then w.used i + 1 else w.used i;
  shown_so_far = λ i x. if (i == n) && has_executed m then w.shown_so_far i x ++ told_cell (part_of d.base.layout n).flat.func.decls x m ∷ [] else w.shown_so_far i x;
}

-- the oldest packet on channel c is delivered, or lost
abbrev pub with_newer : LosingDeployment → NodesRunning → (c : ℕ) → List Packet → NodesRunning
with_newer d w c [] = w
with_newer d w c (k ∷ ks) = record w {
  stores = λ i. taken_newer d.base.shape.channels i c (value_count d.base c) k (w.stores i);
  under_way = λ e. if e == c then ks else w.under_way e;
}

abbrev pub with_loss : NodesRunning → (c : ℕ) → List Packet → NodesRunning
with_loss w c [] = w
with_loss w c (k ∷ ks) = record w { under_way = λ e. if e == c then ks else w.under_way e }

-- an event, and a list of them
abbrev pub with_lossy_event : LosingDeployment → NodesRunning → LossyEvent → NodesRunning
with_lossy_event d w (Plain (Act n at)) = with_acted d w n (acted_losing d n (w.used n) (w.stores n))
with_lossy_event d w (Plain (Del c at)) = with_newer d w c (w.under_way c)
with_lossy_event d w (Plain (End at)) = w
with_lossy_event d w (Lose c at) = with_loss w c (w.under_way c)

abbrev pub with_lossy_events : LosingDeployment → NodesRunning → List LossyEvent → NodesRunning
with_lossy_events d w [] = w
with_lossy_events d w (e ∷ es) = with_lossy_events d (with_lossy_event d w e) es

-- the nodes after these events
abbrev pub losing_run : LosingDeployment → (memory : ℕ → Store) → List LossyEvent → NodesRunning
losing_run d memory es = with_lossy_events d (begun_losing d memory) es
