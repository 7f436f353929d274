-- A program's streams as a table.
use Rattle.std.specs.Prelude.{◌≡◌, ℕ, ◌^◌, ◌<◌, Some, List, [], length, MatchOption, slice_index_or}
use Rattle.std.specs.List.{All}
use Rattle.lt_base.specs.declared.value.Ty.{Ty}
use Rattle.lt_base.specs.declared.value.Value.{Value}
use Rattle.lt_base.specs.declared.value.Cell.{Cell}
use Rattle.lt_base.specs.Program.{Function, WholeProgram}
use Rattle.lt_base.specs.Meaning.{clock_of, stream_of}
use Rattle.lt_base.specs.Typing.{ty_at}
use Rattle.lt_base.specs.Behaviour.{CellFits}
pub use Rattle.lt_base.specs.Main.{main_of, streams_at, HasOutputStreams, cell_count, InputsFit, InputsFitMain}

-- a table has the stream of each variable of a function on these rows, by the variable's number
pub record HasStreams (fs : List Function) (f : Function) (rows : List (List Value)) (table : List (List Cell)) : Type 0 where
  pub width : length table ≡ length f.decls
  pub streams : (x : ℕ) → x < length f.decls → slice_index_or table x [] ≡ stream_of fs f rows x

-- a table has the streams of main's variables on these rows
abbrev pub HasMainStreams : WholeProgram → List (List Value) → List (List Cell) → Type 0
HasMainStreams p rows table = MatchOption (main_of p) ⊥ (λ f. HasStreams p.funcs f rows table)

-- a list has the streams of these variables of main on these rows, in their order
abbrev pub HasStreamsOf : WholeProgram → List (List Value) → List ℕ → List (List Cell) → Type 0
HasStreamsOf p rows xs streams = MatchOption (main_of p) ⊥ (λ f. streams ≡ streams_at p.funcs f rows xs)

-- each variable's cells in a table have its type: a value wherever the variable is on the base clock
abbrev pub HasTypes : Function → List (List Cell) → Type 0
HasTypes f table = (x : ℕ) (t : Ty) → ty_at f.decls x ≡ Some t → All (CellFits (clock_of f.decls x) t) (slice_index_or table x [])

-- so have the cells of main's variables
abbrev pub HasMainTypes : WholeProgram → List (List Cell) → Type 0
HasMainTypes p table = MatchOption (main_of p) ⊥ (λ f. HasTypes f table)

-- variables and equations are numbered in 32 bits
pub record NumbersFit (f : Function) : Type 0 where
  pub variables : length f.decls < 2 ^ 32
  pub equations : length f.eqs < 2 ^ 32

-- so they are in every function of a program
abbrev pub ProgramNumbersFit : WholeProgram → Type 0
ProgramNumbersFit p = All NumbersFit p.funcs
