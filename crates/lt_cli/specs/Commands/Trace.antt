-- `trace`: the events of a schedule that are selected.
use Rattle.std.specs.Prelude.{ℕ, List, Option, Result}
use Rattle.lt_base.specs.declared.memory.Or.{Or}
use Rattle.lt_io.specs.FilesState.{FilesState}
use Rattle.lt_answer.specs.World.{alone}
use Rattle.lt_inspect.specs.Errands.{inspect_errands}
pub use Rattle.lt_inspect.specs.Inspected.{trace_verdict}
use Rattle.lt_text_answers.specs.declared.refusal.Refusal.{Refusal}
use Rattle.lt_cli.specs.Answers.{AnswersText}

-- the program, the setup, the inputs and the schedule are read: a schedule of the events that are selected, or the first refusal
abbrev pub AnswersTrace : (program inputs schedule config : List ℕ) (node : Option (List ℕ)) (from to : ℕ) (old new : FilesState) → Result (List ℕ) (Or Refusal) → Type 0
AnswersTrace program inputs schedule config node from to old new result = AnswersText (λ text. text) (inspect_errands program inputs schedule config) (trace_verdict old.named program inputs schedule config node from to new) (alone old) (alone new) result
