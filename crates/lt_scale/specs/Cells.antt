-- The cells of a stream by their instants.
use Rattle.std.specs.Prelude.{ℕ, Bool, true, false, ◌==◌, List, slice_index_or}
use Rattle.lt_base.specs.declared.value.Cell.{Cell}
use Rattle.lt_base.specs.declared.value.Cell.TheVariants.{Absent, Here}
use Rattle.lt_scale.specs.Scale.{value_level}

-- the cell of an instant; past the stream nothing is there
unfoldable pub stream_cell : List Cell → (k : ℕ) → Cell
stream_cell cells k = slice_index_or cells k Absent

-- a cell has a value
abbrev pub is_there : Cell → Bool
is_there Absent = false
is_there (Here v) = true

-- a cell has a value at this level
unfoldable pub has_level : Cell → (level : ℕ) → Bool
has_level Absent l = false
has_level (Here v) l = value_level v == l
