-- `check`: a program that passes all checks, with a setup one that the setup fits.
use Rattle.std.specs.Prelude.{ℕ, List, Option, Result}
use Rattle.lt_base.specs.declared.memory.Or.{Or}
use Rattle.lt_io.specs.FilesState.{FilesState}
use Rattle.lt_answer.specs.World.{alone}
use Rattle.lt_load.specs.Errands.{check_errands}
pub use Rattle.lt_load.specs.Setups.{check_verdict}
use Rattle.lt_text_answers.specs.declared.refusal.Refusal.{Refusal}
use Rattle.lt_text_answers.specs.Replies.{checked_text}
use Rattle.lt_cli.specs.Answers.{AnswersText}

-- the program is read, and then the setup if there is one: the program's canonical text, or the first refusal
abbrev pub AnswersCheck : (program : List ℕ) (config : Option (List ℕ)) (old new : FilesState) → Result (List ℕ) (Or Refusal) → Type 0
AnswersCheck program config old new result = AnswersText checked_text (check_errands program config) (check_verdict old.named program config) (alone old) (alone new) result
