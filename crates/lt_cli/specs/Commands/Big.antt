-- `big`: a run of the large input, which the tool makes itself.
use Rattle.std.specs.Prelude.{ℕ, List, [], Result}
use Rattle.lt_base.specs.declared.memory.Or.{Or}
use Rattle.lt_io.specs.FabricState.{FabricState}
use Rattle.lt_io.specs.FilesState.{FilesState}
use Rattle.lt_answer.specs.World.{world}
pub use Rattle.lt_big.specs.Big.{big_verdict}
use Rattle.lt_text_answers.specs.declared.refusal.Refusal.{Refusal}
use Rattle.lt_text_answers.specs.Replies.{summarized_text}
use Rattle.lt_cli.specs.Answers.{AnswersText}

-- no file is read, whatever files there are: how many cells each output has and the last of them, or the refusal
abbrev pub AnswersBig : (instants : ℕ) (old new : FabricState) → Result (List ℕ) (Or Refusal) → Type 0
AnswersBig instants old new result = (files : FilesState) → AnswersText (summarized_text instants) [] (big_verdict instants new) (world files old) (world files new) result
