-- What a program does: one behaviour, of which the streams are what is seen.
use Rattle.std.specs.Prelude.{◌≡◌, ℕ, ◌<◌, Some, List, [], ◌∷◌, ◌++◌, length, take, reverse, map}
use Rattle.std.specs.List.{All}
use Rattle.lt_base.specs.declared.value.Ty.{Ty}
use Rattle.lt_base.specs.declared.value.Value.{Value}
use Rattle.lt_base.specs.declared.value.Cell.{Cell}
use Rattle.lt_base.specs.declared.value.Cell.TheVariants.{Absent, Here}
use Rattle.lt_base.specs.Value.{ty_of}
use Rattle.lt_base.specs.Program.{Function, WholeProgram, GoodProgram}
use Rattle.lt_base.specs.Meaning.{ClockPairs, Environment, Row, Callee, clock_of, function_of, calls, cell, stream_of, environments}
use Rattle.lt_base.specs.Typing.{ty_at, input_types, AllFit}
use Rattle.lt_base.specs.Dependence.{Causal}
use Rattle.lt_base.specs.Order.{Ranked}
use Rattle.lt_base.specs.Solution.{Solves, AllSame}
use Rattle.lt_base.specs.Calls.{NotRecursive, Closed}
use Rattle.lt_base.specs.Checked.{CheckedProgram}
use Rattle.lt_base.specs.Defined.{AllDefined}
use Rattle.lt_base.specs.Sizes.{weight_with, parts_with, nested, AddsUp}

-- each row has one value for each input, in order and of the input's type
abbrev pub RowsFit : Function → List (List Value) → Type 0
RowsFit f rows = AllFit (input_types f) (map (map Some) rows)

-- the rows, newest first
abbrev pub newest_first : List (List Value) → List Row
newest_first rows = reverse (map (map Some) rows)

-- the value of each call in a program
abbrev pub calls_of : List Function → Callee
calls_of fs = calls fs (length fs)

-- a cell has a value of the type, or, where the variable is not on the base clock, none
abbrev pub CellFits : ClockPairs → Ty → Cell → Type 0
CellFits ck t (Here v) = ty_of v ≡ t
CellFits [] t Absent = ⊥
CellFits (p ∷ ck) t Absent = Unit {0}

-- a function of a program does exactly one thing on these rows
pub record OneBehaviour (fs : List Function) (f : Function) (rows : List (List Value)) : Type 0 where
  -- the values of the variables at each instant, newest first
  pub behaviour : List Environment
  -- they are the ones that the meaning gives
  pub meant : behaviour ≡ environments (calls_of fs) f (newest_first rows)
  -- every equation holds wherever its variable is present
  pub holds : Solves (calls_of fs) f behaviour (newest_first rows)
  -- every variable has a value of its type wherever it is present
  pub defined : AllDefined f.decls behaviour
  -- whatever else lets every equation hold has the same values wherever a variable is present
  pub only : (es : List Environment) → Solves (calls_of fs) f es (newest_first rows) → AllSame f.decls es behaviour
  -- a variable's stream is what the behaviour shows of it
  pub shown : (x : ℕ) → x < length f.decls → stream_of fs f rows x ≡ reverse (map (λ env. cell env (clock_of f.decls x) x) behaviour)
  -- and its cells have values of its type, at every instant where it is on the base clock
  pub fits : (x : ℕ) (t : Ty) → ty_at f.decls x ≡ Some t → All (CellFits (clock_of f.decls x) t) (stream_of fs f rows x)

-- every function of a checked program has exactly one behaviour on all rows that fit
abbrev pub ChecksGiveOneBehaviour : Type 0
ChecksGiveOneBehaviour =
    (p : WholeProgram) → GoodProgram p → CheckedProgram p → (g : ℕ) (f : Function) → function_of p.funcs g ≡ Some f → (rows : List (List Value)) → RowsFit f rows → OneBehaviour p.funcs f rows

-- a call answers what the called function means, and nothing else is so at every call
pub record OneAnswer (fs : List Function) : Type 0 where
  pub answers : Closed fs (calls_of fs)
  pub only : (callee : Callee) → Closed fs callee → (g : ℕ) (f : Function) → function_of fs g ≡ Some f → (rows : List Row) → callee g rows ≡ calls_of fs g rows

-- so it is in every program without recursion
abbrev pub CallsHaveOneAnswer : Type 0
CallsHaveOneAnswer = (p : WholeProgram) → GoodProgram p → NotRecursive p.funcs → OneAnswer p.funcs

-- a stream has a cell for each row, and later rows leave the cells of earlier ones as they are
pub record GrowsOnly (fs : List Function) (f : Function) (x : ℕ) : Type 0 where
  pub cells : (rows : List (List Value)) → length (stream_of fs f rows x) ≡ length rows
  pub front : (rows more : List (List Value)) → take (length rows) (stream_of fs f (rows ++ more) x) ≡ stream_of fs f rows x

-- so it is of every variable
abbrev pub StreamsGrowOnly : Type 0
StreamsGrowOnly = (fs : List Function) (f : Function) (x : ℕ) → GrowsOnly fs f x

-- a function has no closed walk of dependencies exactly where its equations have an order
abbrev pub CausalByRanks : Type 0
CausalByRanks = (f : Function) → (Causal f → (rank : ℕ → ℕ) × Ranked f rank) × ((rank : ℕ → ℕ) → Ranked f rank → Causal f)

-- the sizes of the functions of a program without recursion add up
abbrev pub SizesAddUp : Type 0
SizesAddUp =
    (fs : List Function) → NotRecursive fs → AddsUp weight_with fs (nested weight_with fs (length fs)) × AddsUp parts_with fs (nested parts_with fs (length fs))
