-- The streams of a function's outputs, as columns of cells, and the machine that gave them.
use Rattle.std.specs.Prelude.{◌≡◌, ◌<◌, ℕ, List, [], ◌∷◌, ◌++◌, length, map, slice_index_or}
use Rattle.lt_base.specs.declared.value.Value.{Value}
use Rattle.lt_base.specs.declared.value.Cell.{Cell}
use Rattle.lt_base.specs.declared.value.Cell.TheVariants.{Absent}
use Rattle.lt_base.specs.Program.{Function}
use Rattle.lt_base.specs.Meaning.{stream_of}
use Rattle.lt_step.specs.Compile.{CodeOf}
use Rattle.lt_machine.specs.declared.machine.Machine.{Ghosts as Machines}
use Rattle.lt_machine.specs.declared.step_machine.StepMachine.{StepMachine}

-- these are the streams of the outputs of a function without calls on these rows, in the order of the outputs
abbrev pub HasColumns : Function → List (List Value) → List (List Cell) → Type 0
HasColumns f rows columns = columns ≡ map (stream_of [] f rows) f.outs

-- columns that are streams of a function which stands so go on with one row
abbrev pub GrowsBy : (Function → List (List Value) → Type 0) → (row : List Value) → (old new : List (List Cell)) → Type 0
GrowsBy stands row old new = (f : Function) (rows : List (List Value)) → stands f rows → HasColumns f rows old → HasColumns f (rows ++ row ∷ []) new

-- each of these cells stands behind its column
abbrev pub ColumnsGain : List Cell → (old new : List (List Cell)) → Type 0
ColumnsGain cells old new = (i : ℕ) → i < length cells → slice_index_or new i [] ≡ slice_index_or old i [] ++ slice_index_or cells i Absent ∷ []

-- a machine runs this function, and has made a step for each of these rows and no others
pub record HasStepped {M : Type 0} (mch : Machines M) (f : Function) (rows : List (List Value)) (machine : M) : Type 0 where
  pub stands : mch.stands machine f rows
  pub made : mch.made machine ≡ length rows

-- a machine steps the code of this function, and has made so many steps
pub record StepsFunction {G : Type 0} (f : Function) (steps : ℕ) (machine : StepMachine G) : Type 0 where
  pub code : CodeOf f machine.code
  pub made : machine.made ≡ steps
