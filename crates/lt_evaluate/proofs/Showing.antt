-- The streams of a program on rows of inputs, and those of equal programs.
use Rattle.std.proofs.Common.{◌≡◌, ◌≤◌, Result, subst}
use Rattle.std.specs.Prelude.{IsErrAnd}
use Rattle.lt_base.specs.declared.memory.Or.{Or}
use Rattle.lt_base.specs.Inputs.{InputTable}
use Rattle.lt_answer.specs.Answered.{Refuses, Settles}
use Rattle.lt_front.specs.Examined.{ExaminedText}
use Rattle.lt_base.specs.Limits.{most_cells}
use Rattle.lt_base.specs.Main.{cell_count}
use Rattle.lt_load_fit.specs.declared.fault.CommandFault.{CommandFault}
use Rattle.lt_load_fit.proofs.Settled.{stop_settled, then_settled}
use Rattle.lt_evaluate.specs.declared.outputs.Outputs.{Outputs}
use Rattle.lt_evaluate.specs.Main.{cells_verdict, output_streams}
use Rattle.lt_evaluate.specs.Meaning.{outputs_printed_verdict, streams_verdict}

module _ (checked : ExaminedText) (table : InputTable) where
  -- too many cells count
  pub cells_stop : (e : Or CommandFault) (r : Result Outputs (Or CommandFault)) → IsErrAnd r (λ f. f ≡ e) → Refuses (cells_verdict checked.program table.rows) e → Settles (streams_verdict checked table) r
  unfolding streams_verdict
  cells_stop e r is refused =
      stop_settled (cells_verdict checked.program table.rows) (λ few. outputs_printed_verdict checked.program (output_streams checked.program table.rows)) e r is refused

  -- they do not
  pub cells_shown : cell_count checked.program table.rows ≤ most_cells → (r : Result Outputs (Or CommandFault)) → Settles (outputs_printed_verdict checked.program (output_streams checked.program table.rows)) r
      → Settles (streams_verdict checked table) r
  unfolding streams_verdict
  cells_shown few r shown =
      then_settled (cells_verdict checked.program table.rows) (λ few. outputs_printed_verdict checked.program (output_streams checked.program table.rows)) tt r few shown

-- an equal program's
pub streams_at : (k l : ExaminedText) → k ≡ l → (table : InputTable) (r : Result Outputs (Or CommandFault)) → Settles (streams_verdict k table) r → Settles (streams_verdict l table) r
streams_at k l is table r shown = subst (λ (t : ExaminedText). Settles (streams_verdict t table) r) is shown
