-- When the messages that nodes are given are those that the other nodes' own parts make.
use Rattle.std.specs.Prelude.{◌≡◌, ℕ, suc, ◌<◌, ◌≤◌, List, [], length, take, None, Some, slice_get, slice_index_or}
use Rattle.lt_base.specs.declared.value.Value.{Value}
use Rattle.lt_base.specs.declared.value.Cell.TheVariants.{Here}
use Rattle.lt_base.specs.Program.{Function}
use Rattle.lt_base.specs.Meaning.{Callee, calls, right_of, stream_of}
use Rattle.lt_place.specs.declared.layout.Layout.{Layout}
use Rattle.lt_net_node.specs.Layout.{IsLaidOut, origin_in, crossing_place}
use Rattle.lt_place.specs.Layout.{PartGives, part_of, crossing_of}
use Rattle.lt_net_node.specs.Local.{Messages, arrived, local_value, local_stream}

-- node n has executed that many instants; what an executed instant saw of a crossing is the sender's own value of the instant before
pub record CarriesOwn (callee : Callee) (l : Layout) (got : Messages) (rows : ℕ → List Value) (executed : ℕ → ℕ) : Type 0 where
  pub sent_before : (c k : ℕ) → c < length l.cross → suc k < executed (crossing_of l c).to → k < executed (crossing_of l c).from
  pub own : (c k x : ℕ) → c < length l.cross → suc k < executed (crossing_of l c).to →
      PartGives (part_of l (crossing_of l c).from) (crossing_of l c).var x →
      local_value callee l got (crossing_of l c).from rows k x ≡ Some (arrived l got (suc k) c)

-- the rows fit the function's inputs
abbrev pub RowsCoverInputs : Function → List (List Value) → Type 0
RowsCoverInputs f rows = (k i : ℕ) → k < length rows → i < length f.decls → right_of f.eqs i ≡ None → i < length (slice_index_or rows k [])

-- each node's stream of a variable is the first entries of the stream of the whole, as many as it has executed instants
abbrev pub Fronts : Type 0
Fronts =
    (f : Function) (l : Layout) → IsLaidOut f l →
    (got : Messages) (rows : List (List Value)) (executed : ℕ → ℕ) →
    ((n : ℕ) → n < length l.nodes → executed n ≤ length rows) → RowsCoverInputs f rows →
    CarriesOwn (calls [] 0) l got (λ k. slice_index_or rows k []) executed →
    (n x : ℕ) → n < length l.nodes → x < length (part_of l n).flat.func.decls →
    local_stream l got n (λ k. slice_index_or rows k []) (executed n) x ≡ take (executed n) (stream_of [] f rows (origin_in (part_of l n) x))

-- a payload from node i to node j has, of each variable that crosses between them, entry k of its stream in the whole
abbrev pub HasWholeValues : Function → Layout → (rows : List (List Value)) → (i j k : ℕ) → (payload : List Value) → Type 0
HasWholeValues f l rows i j k payload =
    (c : ℕ) → c < length l.cross → (crossing_of l c).from ≡ i → (crossing_of l c).to ≡ j →
    slice_get (stream_of [] f rows (crossing_of l c).var) k ≡ Some (Here (slice_index_or payload (crossing_place l c) (crossing_of l c).first))
