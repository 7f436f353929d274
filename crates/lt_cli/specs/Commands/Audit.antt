-- `audit`: the first message too few or too many along a schedule.
use Rattle.std.specs.Prelude.{ℕ, List, Result}
use Rattle.lt_base.specs.declared.memory.Or.{Or}
use Rattle.lt_io.specs.FilesState.{FilesState}
use Rattle.lt_answer.specs.World.{alone}
use Rattle.lt_inspect.specs.Errands.{inspect_errands}
pub use Rattle.lt_inspect.specs.Inspected.{audit_verdict}
use Rattle.lt_text_answers.specs.declared.refusal.Refusal.{Refusal}
use Rattle.lt_text_answers.specs.Texts.{audited_text}
use Rattle.lt_cli.specs.Answers.{AnswersText}

-- the program, the setup, the inputs and the schedule are read: the first execution with a message too few or too many, or that there is none, or
-- the first refusal
abbrev pub AnswersAudit : (program inputs schedule config : List ℕ) (old new : FilesState) → Result (List ℕ) (Or Refusal) → Type 0
AnswersAudit program inputs schedule config old new result = AnswersText audited_text (inspect_errands program inputs schedule config) (audit_verdict old.named program inputs schedule config new) (alone old) (alone new) result
