-- The outputs of a program on rows of inputs blame what was read.
use Rattle.std.proofs.Common.{List, ap}
use Rattle.lt_base.specs.declared.value.Cell.{Cell}
use Rattle.lt_base.specs.Inputs.{InputTable}
use Rattle.lt_base.specs.Program.{WholeProgram}
use Rattle.lt_front.specs.Examined.{ExaminedText}
use Rattle.lt_load.specs.Blamed.{command_blame}
use Rattle.lt_load.proofs.Steps.{IsContent, content_then}
use Rattle.lt_evaluate.specs.Main.{cells_verdict, output_streams}
use Rattle.lt_evaluate.specs.Meaning.{outputs_printed_verdict, streams_verdict}

printed_content : (p : WholeProgram) (cells : List (List Cell)) → IsContent command_blame (outputs_printed_verdict p cells)
printed_content p cells e wrong = absurd wrong

pub streams_content : (checked : ExaminedText) (table : InputTable) → IsContent command_blame (streams_verdict checked table)
unfolding streams_verdict
streams_content checked table =
    content_then command_blame (cells_verdict checked.program table.rows) (λ few. outputs_printed_verdict checked.program (output_streams checked.program table.rows)) (λ e right. ap command_blame right.1)
    (λ few. printed_content checked.program (output_streams checked.program table.rows))
