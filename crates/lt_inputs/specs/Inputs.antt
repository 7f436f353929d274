-- The inputs file: a CSV table with a header, an instant in each row and a value for each input.
use Rattle.std.specs.Prelude.{ℕ, ◌+◌, ◌-◌, ◌==◌, Bool, true, false, not, List, [], ◌∷◌, length, map, take, Option, Some, None, option_map, Result, Ok, Err, if◌then◌else◌, nat_lt, codes}
use Rattle.std.specs.List.{list_all}
use Rattle.std.specs.Str.{bytes_eq, is_utf8}
use Rattle.csv.specs.Reading.{records, default_config, strip_bom}
use Rattle.lt_base.specs.Limits.{most_rows}
use Rattle.lt_base.specs.declared.function.Decl.{Decl}
use Rattle.lt_base.specs.declared.value.Value.{Value}
use Rattle.lt_base.specs.Program.{Function}
use Rattle.lt_base.specs.Inputs.{InputTable}
use Rattle.lt_base.specs.Digits.{number_of}
use Rattle.lt_inputs.specs.Fields.{field_value}
use Rattle.lt_inputs.specs.declared.fault.InputKind.{InputKind}
use Rattle.lt_inputs.specs.declared.fault.InputKind.TheVariants.{NotCsv, Header, Instant, Value as NoValue, TooMany}
use Rattle.lt_inputs.specs.declared.fault.InputFault.{InputFault}

-- the declarations of a function's inputs
abbrev pub inputs_in : Function → List Decl
inputs_in f = take f.n_in f.decls

-- each field of a record is text
abbrev pub is_text : List (List ℕ) → Bool
is_text fields = list_all is_utf8 fields

-- a value before others, where all exist
abbrev pub with_value : Option Value → Option (List Value) → Option (List Value)
with_value None others = None
with_value (Some v) others = option_map (λ vs. v ∷ vs) others

-- one value for each input, of the input's type
abbrev pub field_values : List Decl → List (List ℕ) → Option (List Value)
field_values [] [] = Some []
field_values [] (field ∷ fields) = None
field_values (d ∷ ds) [] = None
field_values (d ∷ ds) (field ∷ fields) = with_value (field_value d.ty field) (field_values ds fields)

-- the number exists and is this one
abbrev pub is_this_number : ℕ → Option ℕ → Bool
is_this_number n None = false
is_this_number n (Some m) = m == n

-- the values, where they exist
abbrev pub or_no_value : Option (List Value) → Result (List Value) InputKind
or_no_value None = Err NoValue
or_no_value (Some vs) = Ok vs

-- a record of an instant and of one value for each input
abbrev pub instant_and_values : List Decl → ℕ → List (List ℕ) → Result (List Value) InputKind
instant_and_values ins k [] = Err NotCsv
instant_and_values ins k (instant ∷ fields) =
    if is_this_number k (number_of instant) then or_no_value (field_values ins fields) else Err Instant

-- the row of number n, counted from 1: too many rows, then no record of text as long as the header, then the
-- instant, then the values
abbrev pub row_of : List Decl → ℕ → List (List ℕ) → Result (List Value) InputKind
row_of ins n fields =
    if nat_lt most_rows n then Err TooMany
    else if not (length fields == length ins + 1) then Err NotCsv
    else if not (is_text fields) then Err NotCsv
    else instant_and_values ins (n - 1) fields

-- the row of number n before others, or its fault
abbrev pub then_rows : ℕ → Result (List Value) InputKind → Result (List (List Value)) InputFault → Result (List (List Value)) InputFault
then_rows n (Err k) others = Err (record { row = n; kind = k })
then_rows n (Ok vs) (Err fault) = Err fault
then_rows n (Ok vs) (Ok others) = Ok (vs ∷ others)

-- the rows of these records, from number n on, or the first fault
abbrev pub input_rows_from : List Decl → ℕ → List (List (List ℕ)) → Result (List (List Value)) InputFault
input_rows_from ins n [] = Ok []
input_rows_from ins n (r ∷ rs) = then_rows n (row_of ins n r) (input_rows_from ins (n + 1) rs)

-- the header's fields
abbrev pub header_of : List Decl → List (List ℕ)
header_of ins = codes "instant" ∷ map (λ d. d.name) ins

-- two records have the same fields
abbrev pub same_fields : List (List ℕ) → List (List ℕ) → Bool
same_fields [] [] = true
same_fields [] (b ∷ bs) = false
same_fields (a ∷ as_) [] = false
same_fields (a ∷ as_) (b ∷ bs) = if bytes_eq a b then same_fields as_ bs else false

-- a fault of the header
abbrev pub at_header : InputKind → InputFault
at_header kind = record { row = 0; kind = kind }

-- the rows under a header, or the first fault
abbrev pub input_rows_of : List Decl → List (List (List ℕ)) → Result (List (List Value)) InputFault
input_rows_of ins [] = Err (at_header Header)
input_rows_of ins (header ∷ rs) =
    if not (is_text header) then Err (at_header NotCsv)
    else if not (same_fields header (header_of ins)) then Err (at_header Header)
    else input_rows_from ins 1 rs

-- a table of these rows
abbrev pub input_table_of : ℕ → Result (List (List Value)) InputFault → Result InputTable InputFault
input_table_of width (Ok rows) = Ok (record { width = width; rows = rows })
input_table_of width (Err fault) = Err fault

-- what the bytes of a file read as for a function: the table of its inputs, or the first fault
abbrev pub inputs_of : Function → List ℕ → Result InputTable InputFault
inputs_of f bytes = input_table_of f.n_in (input_rows_of (inputs_in f) (records default_config (strip_bom bytes)))
