-- The outputs of a program, and how many cells count.
use Rattle.std.specs.Prelude.{◌≡◌, ◌≤◌, ℕ, List, [], map, slice_index_or}
use Rattle.lt_base.specs.declared.value.Value.{Value}
use Rattle.lt_base.specs.declared.value.Cell.{Cell}
use Rattle.lt_base.specs.Program.{Function, WholeProgram}
use Rattle.lt_base.specs.Meaning.{stream_of}
use Rattle.lt_answer.specs.Answered.{Verdict}
use Rattle.lt_answer.specs.Rules.{OfRule}
use Rattle.lt_base.specs.Limits.{most_cells}
use Rattle.lt_base.specs.Main.{cell_count}
use Rattle.lt_load_fit.specs.Main.{main_in}
use Rattle.lt_load_fit.specs.declared.fault.CommandFault.{CommandFault}
use Rattle.lt_load_fit.specs.declared.fault.CommandFault.TheVariants as fault

-- the name of a function's variable, as written
abbrev pub written_name : Function → ℕ → List ℕ
written_name f x = slice_index_or (map (λ d. d.name) f.decls) x []

-- the names of the outputs, in the order of their declarations
abbrev pub output_names : WholeProgram → List (List ℕ)
output_names p = map (written_name (main_in p)) (main_in p).outs

-- the streams of the outputs on these rows of inputs
abbrev pub output_streams : WholeProgram → List (List Value) → List (List Cell)
output_streams p rows = map (stream_of p.funcs (main_in p) rows) (main_in p).outs

-- not too many cells count, or they are too many
abbrev pub cells_verdict : WholeProgram → List (List Value) → Verdict (Unit {0}) CommandFault
cells_verdict p rows = OfRule (cell_count p rows ≤ most_cells) (λ e. e ≡ fault.TooManyCells)
