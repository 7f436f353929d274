-- What the emitted step leaves.
use Rattle.std.specs.Prelude.{◌≡◌, ℕ, ◌<◌, false, nat_lt, ℤ, Option, Some, None, List, [], ◌∷◌, length, map, reverse, slice_index_or, if◌then◌else◌}
use Rattle.lt_base.specs.declared.value.Ty.{Ty}
use Rattle.lt_base.specs.declared.value.Ty.TheVariants.{Int as IntTy, Bool as BoolTy}
use Rattle.lt_base.specs.declared.value.Value.{Value}
use Rattle.lt_base.specs.declared.value.Value.TheVariants.{Int, Bool as Truth}
use Rattle.lt_base.specs.declared.value.Cell.{Cell}
use Rattle.lt_base.specs.declared.value.Cell.TheVariants.{Absent, Here}
use Rattle.lt_base.specs.declared.function.Decl.{Decl}
use Rattle.lt_base.specs.Program.{Function}
use Rattle.lt_base.specs.Meaning.{Environment, clock_of, stream_of}
use Rattle.lt_base.specs.Typing.{ty_at}
use Rattle.lt_base.specs.Behaviour.{RowsFit}
use Rattle.lt_step.specs.Code.{StepCode}
use Rattle.lt_step.specs.Compile.{CodeOf}
use Rattle.lt_c.specs.Tree.{slot}
use Rattle.lt_c.specs.Meaning.{Store, c_truth_of, holds, store_left}
use Rattle.lt_c.specs.Literals.{c_number}
use Rattle.lt_c_step.specs.Translate.{of_lets, of_keeps, of_firsts}

-- wherever the slots have a value, the store has it
abbrev pub Matches : Environment → Store → Type 0
Matches env m = (x : ℕ) (v : Value) → env x ≡ Some v → m (slot x) ≡ c_number v

-- the inputs' numbers in the first variables
abbrev pub with_inputs : List Value → Store → Store
with_inputs row m (slot x) = if nat_lt x (length row) then c_number (slice_index_or row x (Truth false)) else m (slot x)
with_inputs row m p = m p

-- the store at an instant, when the outputs are read
abbrev pub store_when_read : StepCode → List Value → Store → Store
store_when_read c row m = store_left (of_lets c.lets) (with_inputs row m)

-- the store after the instants of these rows, newest first, from what the file begins with
abbrev pub store_after : StepCode → Store → List (List Value) → Store
store_after c m [] = store_left (of_firsts c.keeps) m
store_after c m (row ∷ rows) = store_left (of_keeps c.keeps) (store_when_read c row (store_after c m rows))

-- the stores at the instants of these rows, newest first, when the outputs are read
abbrev pub stores : StepCode → Store → List (List Value) → List Store
stores c m [] = []
stores c m (row ∷ rows) = store_when_read c row (store_after c m rows) ∷ stores c m rows

-- the value of a type that a number stands for
abbrev pub value_as : Option Ty → ℤ → Value
value_as (Some BoolTy) z = Truth (c_truth_of z)
value_as (Some IntTy) z = Int z
value_as None z = Int z

-- what an output shows: its variable where its clock's conditions hold, and nothing elsewhere
abbrev pub shown : List Decl → ℕ → Store → Cell
shown ds y m = if holds m (clock_of ds y) then Here (value_as (ty_at ds y) (m (slot y))) else Absent

-- what an output shows at the instants of these rows, oldest first
abbrev pub shown_stream : Function → StepCode → Store → List (List Value) → ℕ → List Cell
shown_stream f c m rows y = reverse (map (shown f.decls y) (stores c m (reverse rows)))

-- whatever the variables held before, the emitted step shows the streams of the function
abbrev pub StepShowsStreams : Type 0
StepShowsStreams =
    (f : Function) (c : StepCode) → CodeOf f c → (m : Store) (rows : List (List Value)) → RowsFit f rows → (y : ℕ) → y < length f.decls
    → shown_stream f c m rows y ≡ stream_of [] f rows y
