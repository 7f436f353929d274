-- The function that is run: its inputs, the streams of its outputs, and how many cells count for it.
use Rattle.std.specs.Prelude.{◌≡◌, ℕ, ◌*◌, Option, Some, List, length, map, MatchOption}
use Rattle.lt_base.specs.declared.value.Value.{Value}
use Rattle.lt_base.specs.declared.value.Cell.{Cell}
use Rattle.lt_base.specs.Program.{Function, WholeProgram}
use Rattle.lt_base.specs.Inputs.{InputTable}
use Rattle.lt_base.specs.Meaning.{function_of, stream_of}
use Rattle.lt_base.specs.Typing.{input_types, AllFit}
use Rattle.lt_base.specs.Sizes.{program_weight}

-- the function that is run, if there is one
abbrev pub main_of : WholeProgram → Option Function
main_of p = function_of p.funcs p.main

-- a column for each input of a function, and in each row values of the inputs' types
pub record InputsFit (f : Function) (inputs : InputTable) : Type 0 where
  pub width : inputs.width ≡ f.n_in
  pub rows : AllFit (input_types f) (map (map Some) inputs.rows)

-- the inputs fit main
abbrev pub InputsFitMain : WholeProgram → InputTable → Type 0
InputsFitMain p inputs = MatchOption (main_of p) ⊥ (λ f. InputsFit f inputs)

-- the streams of these variables of a function on these rows, in their order
abbrev pub streams_at : List Function → Function → List (List Value) → List ℕ → List (List Cell)
streams_at fs f rows xs = map (stream_of fs f rows) xs

-- a list has the streams of main's outputs on these rows, in the order of the outputs
abbrev pub HasOutputStreams : WholeProgram → List (List Value) → List (List Cell) → Type 0
HasOutputStreams p rows streams = MatchOption (main_of p) ⊥ (λ f. streams ≡ streams_at p.funcs f rows f.outs)

-- how many cells count against the limit: the weight of main for each row
abbrev pub cell_count : WholeProgram → List (List Value) → ℕ
cell_count p rows = program_weight p * length rows
