-- The table of inputs.
use Rattle.std.specs.Prelude.{◌≡◌, ℕ, zero, suc, ◌≤◌, pos, List, [], ◌∷◌, ◌++◌, length, map, take, Option, slice_get, slice_index_or}
use Rattle.std.specs.Option.{option_and_then}
use Rattle.std.specs.List.{All}
use Rattle.std.specs.Global.{Vec}
use Rattle.lt_base.specs.declared.value.Value.{Value}
use Rattle.lt_base.specs.declared.value.Value.TheVariants.{Int}

-- a row for each instant, with a value for each input
pub record InputTable : Type 0 where
  pub width : ℕ  -- the number of inputs
  pub rows : List (List Value)

-- the value of an input in a row, where both exist
abbrev pub entry_at : List (List Value) → ℕ → ℕ → Option Value
entry_at rows k i = option_and_then (λ row. slice_get row i) (slice_get rows k)

-- the entry of a column at an instant; past its end nothing is said of it
abbrev pub in_column : List Value → ℕ → Value
in_column column k = slice_index_or column k (Int (pos 0))

-- the rows of these columns at the first instants
abbrev pub rows_below : List (List Value) → ℕ → List (List Value)
rows_below columns zero = []
rows_below columns (suc k) = rows_below columns k ++ map (λ column. in_column column k) columns ∷ []

-- each column has at least so many entries
abbrev pub HaveRows : ℕ → List (Vec Value) → Type 0
HaveRows rows columns = All (λ column. rows ≤ length column.items) columns

-- the first entries of each column are as they were
abbrev pub SameRows : ℕ → List (Vec Value) → List (Vec Value) → Type 0
SameRows rows old new = map (λ column. take rows column.items) new ≡ map (λ column. take rows column.items) old

-- the entries of the columns at an instant are this row
abbrev pub HoldRow : ℕ → List Value → List (Vec Value) → Type 0
HoldRow k row columns = map (λ column. in_column column.items k) columns ≡ row
