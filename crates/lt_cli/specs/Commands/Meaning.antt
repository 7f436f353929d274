-- `meaning`: the streams of a program's outputs on a table of inputs.
use Rattle.std.specs.Prelude.{ℕ, List, Result}
use Rattle.lt_base.specs.declared.memory.Or.{Or}
use Rattle.lt_io.specs.FilesState.{FilesState}
use Rattle.lt_answer.specs.World.{alone}
use Rattle.lt_evaluate.specs.Errands.{meaning_errands}
pub use Rattle.lt_evaluate.specs.Meaning.{meaning_verdict}
use Rattle.lt_text_answers.specs.declared.refusal.Refusal.{Refusal}
use Rattle.lt_text_answers.specs.Replies.{printed_text}
use Rattle.lt_cli.specs.Answers.{AnswersText}

-- the program and then the inputs are read: a line of cells for each output, or the first refusal
abbrev pub AnswersMeaning : (program inputs : List ℕ) (old new : FilesState) → Result (List ℕ) (Or Refusal) → Type 0
AnswersMeaning program inputs old new result = AnswersText printed_text (meaning_errands program inputs) (meaning_verdict old.named program inputs) (alone old) (alone new) result
