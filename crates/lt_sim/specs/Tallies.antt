-- Which channels lead to a node and from it, and numbers that are raised.
use Rattle.std.specs.Prelude.{◌≡◌, ℕ, ◌+◌, ◌<◌, ◌==◌, ◌&&◌, Bool, List, length, slice_set, slice_index_or, if◌then◌else◌}
use Rattle.lt_arch.specs.declared.chan.Chan.{Chan}
use Rattle.lt_arch.specs.declared.shape.Shape.{Shape}
use Rattle.lt_arch.specs.Readers.{node_count, chan_count, is_data, no_chan}
use Rattle.lt_base.specs.Truths.{how_many, same_truth}
use Rattle.lt_sim.specs.declared.tally.Tally.{Tally}

-- channel c leads to node n, or from it, and carries data, or acknowledgements
abbrev pub leads_kind_to : List Chan → (data_kind : Bool) → (n c : ℕ) → Bool
leads_kind_to cs data_kind n c = ((slice_index_or cs c no_chan).to == n) && same_truth data_kind (is_data (slice_index_or cs c no_chan).kind)

abbrev pub leads_kind_from : List Chan → (data_kind : Bool) → (n c : ℕ) → Bool
leads_kind_from cs data_kind n c = ((slice_index_or cs c no_chan).from == n) && same_truth data_kind (is_data (slice_index_or cs c no_chan).kind)

-- a list with one number raised by one, or as it was
abbrev pub raised : Bool → List ℕ → (n : ℕ) → List ℕ
raised grows xs n = if grows then slice_set xs n (slice_index_or xs n 0 + 1) else xs

-- these are, node by node, how many channels of a kind lead to it
abbrev pub CountsTo : Shape → (data_kind : Bool) → List ℕ → Type 0
CountsTo s data_kind counts = (n : ℕ) → n < node_count s → slice_index_or counts n 0 ≡ how_many (leads_kind_to s.channels data_kind n) (chan_count s)

-- a tally has its three numbers of so many nodes
abbrev pub HasCount : (count : ℕ) → Tally → Type 0
HasCount count tally = (length tally.wanted.items ≡ count) × (length tally.fresh.items ≡ count) × (length tally.early.items ≡ count)
