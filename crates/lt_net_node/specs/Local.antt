-- What a part of a placed function means on the messages that its node was given.
use Rattle.std.specs.Prelude.{ℕ, zero, suc, List, [], ◌∷◌, ◌++◌, map, false, Some, None, slice_index_or}
use Rattle.lt_base.specs.declared.value.Value.{Value}
use Rattle.lt_base.specs.declared.value.Value.TheVariants.{Bool as Truth}
use Rattle.lt_base.specs.declared.value.Cell.{Cell}
use Rattle.lt_base.specs.Program.{Function}
use Rattle.lt_base.specs.Meaning.{Environment, Callee, environments, stream_of}
use Rattle.lt_place.specs.declared.layout.Feed.{Feed}
use Rattle.lt_place.specs.declared.layout.Feed.TheVariants.{Input, Cross}
use Rattle.lt_place.specs.declared.layout.Layout.{Layout}
use Rattle.lt_place.specs.Layout.{part_of, crossing_of}
use Rattle.lt_net_node.specs.Layout.{crossing_place}

-- the payloads delivered from one node to another, the first message first
abbrev pub Messages : Type 0
Messages = ℕ → ℕ → List (List Value)

-- what instant k sees of a crossing: the literal, and from then on message k
abbrev pub arrived : Layout → Messages → ℕ → ℕ → Value
arrived l got zero c = (crossing_of l c).first
arrived l got (suc k) c = slice_index_or (slice_index_or (got (crossing_of l c).from (crossing_of l c).to) k []) (crossing_place l c) (crossing_of l c).first

-- an input of a part at instant k, at which the whole has this input row
abbrev pub fed : Layout → Messages → List Value → ℕ → Feed → Value
fed l got row k (Input x) = slice_index_or row x (Truth false)
fed l got row k (Cross c) = arrived l got k c

-- the input row of node n at instant k
abbrev pub fed_row : Layout → Messages → ℕ → List Value → ℕ → List Value
fed_row l got n row k = map (fed l got row k) (part_of l n).feeds

-- the first m of a sequence, newest first
abbrev pub upto : {A : Type 0} → (ℕ → A) → ℕ → List A
upto f zero = []
upto f (suc m) = f m ∷ upto f m

-- the environments of a function after m instants, newest first
abbrev pub runs : Callee → Function → (ℕ → List Value) → ℕ → List Environment
runs callee f rows m = environments callee f (upto (λ k. map Some (rows k)) m)

-- those of the part of node n
abbrev pub local_runs : Callee → Layout → Messages → ℕ → (ℕ → List Value) → ℕ → List Environment
local_runs callee l got n rows m = runs callee (part_of l n).flat.func (λ k. fed_row l got n (rows k) k) m

-- the environment of the last instant
abbrev pub newest : List Environment → Environment
newest [] = λ x. None
newest (env ∷ past) = env

-- the value of a part's variable at instant k
abbrev pub local_value : Callee → Layout → Messages → ℕ → (ℕ → List Value) → ℕ → Environment
local_value callee l got n rows k = newest (local_runs callee l got n rows (suc k))

-- the first m of a sequence, in order
abbrev pub firsts : {A : Type 0} → (ℕ → A) → ℕ → List A
firsts f zero = []
firsts f (suc m) = firsts f m ++ f m ∷ []

-- the stream of a variable of node n's part on m rows
abbrev pub local_stream : Layout → Messages → ℕ → (ℕ → List Value) → ℕ → ℕ → List Cell
local_stream l got n rows m x = stream_of [] (part_of l n).flat.func (firsts (λ k. fed_row l got n (rows k) k) m) x
