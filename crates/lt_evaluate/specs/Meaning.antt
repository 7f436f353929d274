-- What a program's outputs show on all rows of its inputs.
use Rattle.std.specs.Prelude.{◌≡◌, ℕ, List, Option, Result, Ok, Err}
use Rattle.lt_base.specs.declared.memory.Or.{Or}
use Rattle.lt_io.specs.FilesState.{FilesState}
use Rattle.lt_base.specs.declared.value.Cell.{Cell}
use Rattle.lt_base.specs.Inputs.{InputTable}
use Rattle.lt_base.specs.Program.{WholeProgram}
use Rattle.lt_front.specs.Examined.{ExaminedText}
use Rattle.lt_answer.specs.Answered.{Verdict, AndThen}
use Rattle.lt_load_fit.specs.declared.fault.CommandFault.{CommandFault}
use Rattle.lt_load.specs.Loaded.{program_verdict, inputs_verdict}
use Rattle.lt_load.specs.Errands.{inputs_errand}
use Rattle.lt_load.specs.OnFiles.{OnFiles}
use Rattle.lt_evaluate.specs.Errands.{meaning_errands}
use Rattle.lt_evaluate.specs.declared.outputs.Outputs.{Outputs}
use Rattle.lt_evaluate.specs.Main.{output_names, output_streams, cells_verdict}

-- what is shown: main's outputs, with these cells
pub record PrintsOutputs (p : WholeProgram) (cells : List (List Cell)) (outputs : Outputs) : Type 0 where
  pub names : outputs.names ≡ output_names p
  pub cells_are : outputs.cells ≡ cells

-- no refusal, and this is shown
abbrev pub outputs_printed_verdict : WholeProgram → (cells : List (List Cell)) → Verdict Outputs CommandFault
outputs_printed_verdict p cells (Ok outputs) = PrintsOutputs p cells outputs
outputs_printed_verdict p cells (Err fault) = ⊥

-- a program on rows of inputs: the limit on cells, and then the streams of the outputs
unfoldable pub streams_verdict : ExaminedText → InputTable → Verdict Outputs CommandFault
streams_verdict checked table = AndThen (cells_verdict checked.program table.rows) (λ few. outputs_printed_verdict checked.program (output_streams checked.program table.rows))

-- a program on the inputs of a file
unfoldable pub inputs_streams_verdict : (named : List ℕ → Option (List ℕ)) → (inputs : List ℕ) → ExaminedText → Verdict Outputs CommandFault
inputs_streams_verdict named inputs checked = AndThen (inputs_verdict checked.program (named inputs)) (λ table. streams_verdict checked table)

-- the program, its inputs and the limit on cells in this order, and then the streams of the outputs
unfoldable pub meaning_verdict : (named : List ℕ → Option (List ℕ)) (program inputs : List ℕ) → Verdict Outputs CommandFault
meaning_verdict named program inputs = AndThen (program_verdict (named program)) (λ checked. inputs_streams_verdict named inputs checked)

-- what a program means on the inputs of a file
abbrev pub Means : (program inputs : List ℕ) (old new : FilesState) → Result Outputs (Or CommandFault) → Type 0
Means program inputs old new result = OnFiles (meaning_errands program inputs) (meaning_verdict old.named program inputs) old new result

-- what a program that passed all checks means on the inputs of a file
abbrev pub MeansOn : ExaminedText → (inputs : List ℕ) (old new : FilesState) → Result Outputs (Or CommandFault) → Type 0
MeansOn checked inputs old new result = OnFiles (inputs_errand inputs) (inputs_streams_verdict old.named inputs checked) old new result
