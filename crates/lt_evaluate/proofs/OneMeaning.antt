-- A meaning leaves one refusal, up to its kind.
use Rattle.std.proofs.Common.{◌≡◌, ◌≤◌, ◌∙◌, ℕ, List, Option, sym, ap}
use Rattle.lt_base.specs.declared.value.Value.{Value}
use Rattle.lt_base.specs.declared.value.Cell.{Cell}
use Rattle.lt_base.specs.Program.{WholeProgram}
use Rattle.lt_base.specs.Inputs.{InputTable}
use Rattle.lt_front.specs.Examined.{ExaminedText}
use Rattle.lt_base.specs.Limits.{most_cells}
use Rattle.lt_base.specs.Main.{cell_count}
use Rattle.lt_answer.proofs.Decided.{HasOneKind, HasOneOutcome, of_rule, and_then}
use Rattle.lt_load_fit.specs.declared.fault.CommandFault.{CommandFault}
use Rattle.lt_load_fit.specs.declared.fault.CommandFault.TheVariants as fault
use Rattle.lt_load.specs.Loaded.{program_verdict, inputs_verdict}
use Rattle.lt_load.proofs.OneLoad.{TellsLimits, program_decided}
use Rattle.lt_load.proofs.OnePlan.{inputs_decided}
use Rattle.lt_evaluate.specs.Main.{cells_verdict, output_streams}
use Rattle.lt_evaluate.specs.Meaning.{outputs_printed_verdict, streams_verdict, inputs_streams_verdict, meaning_verdict}

-- the limit on cells
pub cells_decided : {K : Type 0} (kind : CommandFault → K) (p : WholeProgram) (rows : List (List Value)) → HasOneOutcome kind (cells_verdict p rows)
cells_decided kind p rows =
    of_rule kind (cell_count p rows ≤ most_cells) (λ e. e ≡ fault.TooManyCells) (λ e f is it. ap kind (is ∙ sym it))

no_fault : {K : Type 0} (kind : CommandFault → K) (p : WholeProgram) (cells : List (List Cell)) → HasOneKind kind (outputs_printed_verdict p cells)
no_fault kind p cells = record { one_kind = λ e f p q. absurd p; not_both = λ e x p q. p }

streams_decided : {K : Type 0} (kind : CommandFault → K) (checked : ExaminedText) (table : InputTable) → HasOneKind kind (streams_verdict checked table)
unfolding streams_verdict
streams_decided kind checked table =
    and_then kind (cells_verdict checked.program table.rows) _ (cells_decided kind checked.program table.rows) (λ few. no_fault kind checked.program (output_streams checked.program table.rows))

inputs_streams_decided : {K : Type 0} (kind : CommandFault → K) (named : List ℕ → Option (List ℕ)) (inputs : List ℕ) (checked : ExaminedText) → HasOneKind kind (inputs_streams_verdict named inputs checked)
unfolding inputs_streams_verdict
inputs_streams_decided kind named inputs checked =
    and_then kind (inputs_verdict checked.program (named inputs)) (λ table. streams_verdict checked table) (inputs_decided kind checked.program (named inputs)) (λ table. streams_decided kind checked table)

-- right refusals are of one kind, and then nothing is right to print
pub meaning_decided : {K : Type 0} (kind : CommandFault → K) → TellsLimits kind → (named : List ℕ → Option (List ℕ)) (program inputs : List ℕ) → HasOneKind kind (meaning_verdict named program inputs)
unfolding meaning_verdict
meaning_decided kind along named program inputs =
    and_then kind (program_verdict (named program)) (λ checked. inputs_streams_verdict named inputs checked) (program_decided kind along (named program)) (λ checked. inputs_streams_decided kind named inputs checked)
