-- The channels of each node, as lists.
use Rattle.std.specs.Prelude.{◌≡◌, ℕ, zero, suc, ◌<◌, ◌==◌, ◌&&◌, Bool, true, false, not, List, [], ◌∷◌, ◌++◌, length, slice_index_or}
use Rattle.lt_base.specs.Truths.{same_truth}
use Rattle.lt_arch.specs.declared.chan.Chan.{Chan}
use Rattle.lt_arch.specs.Readers.{is_data, no_chan}
use Rattle.lt_link.specs.declared.ports.Ports.{Ports}

-- c is a channel to node n that carries data, or acknowledgements
abbrev pub is_to : List Chan → ℕ → Bool → ℕ → Bool
is_to cs n kind c = ((slice_index_or cs c no_chan).to == n) && same_truth kind (is_data (slice_index_or cs c no_chan).kind)

-- c is a channel from node n that carries data, or acknowledgements
abbrev pub is_from : List Chan → ℕ → Bool → ℕ → Bool
is_from cs n kind c = ((slice_index_or cs c no_chan).from == n) && same_truth kind (is_data (slice_index_or cs c no_chan).kind)

-- a list with one more number at its end, or as it was
abbrev pub push_number : Bool → (k : ℕ) → List ℕ → List ℕ
push_number true k ks = ks ++ k ∷ []
push_number false k ks = ks

-- the numbers below n that pass a test, in increasing order
abbrev pub numbers : (on : ℕ → Bool) (n : ℕ) → List ℕ
numbers on zero = []
numbers on (suc k) = push_number (on k) k (numbers on k)

-- the channels of node n
abbrev pub node_ports_of : List Chan → (n : ℕ) → Ports
node_ports_of cs n = record {
  data_in = numbers (is_to cs n true) (length cs);
  data_out = numbers (is_from cs n true) (length cs);
  acks_in = numbers (is_to cs n false) (length cs);
  acks_out = numbers (is_from cs n false) (length cs);
}

-- past the last node there are none
abbrev pub no_ports : Ports
no_ports = record { data_in = []; data_out = []; acks_in = []; acks_out = [] }

-- the channels of each of the first nodes
abbrev pub all_ports : List Chan → (count : ℕ) → List Ports
all_ports cs zero = []
all_ports cs (suc n) = all_ports cs n ++ node_ports_of cs n ∷ []

-- the channels of node n stand in the table
pub record HasPorts (cs : List Chan) (n : ℕ) (ps : List Ports) : Type 0 where
  pub there : n < length ps
  pub are : slice_index_or ps n no_ports ≡ node_ports_of cs n
