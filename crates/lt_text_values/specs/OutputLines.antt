-- The text of outputs, and their summary.
use Rattle.std.specs.Prelude.{ℕ, true, false, List, [], ◌++◌, ◌∷◌, codes, zip, length, slice_get, ◌-◌, Option, Some, None}
use Rattle.std.specs.List.{flat_map}
use Rattle.std.specs.Fmt.{decimal, signed_decimal}
use Rattle.lt_base.specs.declared.value.Value.TheVariants.{Int, Bool as Truth}
use Rattle.lt_base.specs.declared.value.Cell.{Cell}
use Rattle.lt_base.specs.declared.value.Cell.TheVariants.{Absent, Here}

-- a cell: a decimal number, `true`, `false`, or `.` for an absence
abbrev pub cell_text : Cell → List ℕ
cell_text Absent = codes "."
cell_text (Here (Int n)) = signed_decimal n
cell_text (Here (Truth true)) = codes "true"
cell_text (Here (Truth false)) = codes "false"

-- a space before each cell
abbrev pub cells_text : List Cell → List ℕ
cells_text cells = flat_map (λ cell. 32 ∷ cell_text cell) cells

-- an output's name, `:`, its cells and a line feed
abbrev pub output_line : List ℕ → List Cell → List ℕ
output_line name cells = name ++ 58 ∷ cells_text cells ++ 10 ∷ []

-- a line for each output, in order
abbrev pub outputs_text : List (List ℕ) → List (List Cell) → List ℕ
outputs_text names cells = flat_map (λ output. output_line output.0 output.1) (zip names cells)

-- a space and the last of some cells, and nothing where there is none
abbrev pub last_text : Option Cell → List ℕ
last_text None = []
last_text (Some cell) = 32 ∷ cell_text cell

-- an output's name, a space, the number of its cells, the last of them and a line feed
abbrev pub summary_line : List ℕ → List Cell → List ℕ
summary_line name cells = name ++ 32 ∷ decimal (length cells) ++ last_text (slice_get cells (length cells - 1)) ++ 10 ∷ []

-- such a line for each output, in order
abbrev pub summary_lines : List (List ℕ) → List (List Cell) → List ℕ
summary_lines names cells = flat_map (λ output. summary_line output.0 output.1) (zip names cells)

-- the number of instants before them
abbrev pub summary_text : (instants : ℕ) → List (List ℕ) → List (List Cell) → List ℕ
summary_text instants names cells = codes "instants " ++ decimal instants ++ 10 ∷ summary_lines names cells
