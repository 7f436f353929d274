-- `schedule`: a schedule that a seed draws, by the pace of a setup's protocol.
use Rattle.std.specs.Prelude.{ℕ, List, Option, Some, Result}
use Rattle.lt_base.specs.declared.memory.Or.{Or}
use Rattle.lt_io.specs.FilesState.{FilesState}
use Rattle.lt_answer.specs.Alone.{AnsweredOnFiles}
use Rattle.lt_load.specs.Errands.{load_errands}
pub use Rattle.lt_scheduling.specs.Scheduled.{schedule_verdict}
use Rattle.lt_text_answers.specs.declared.refusal.Refusal.{Refusal}
use Rattle.lt_text_answers.specs.Blamed.{blame_of}
use Rattle.lt_cli.specs.Answers.{text_verdict}

-- the program, the setup and the inputs are read: the text of the schedule, or the first refusal
abbrev pub AnswersSchedule : (program inputs config : List ℕ) (loss seed horizon : ℕ) (jitter : Option ℕ) (old new : FilesState) → Result (List ℕ) (Or Refusal) → Type 0
AnswersSchedule program inputs config loss seed horizon jitter old new result =
    AnsweredOnFiles blame_of (load_errands program inputs (Some config)) (text_verdict (λ text. text) (schedule_verdict old.named program inputs config loss seed horizon jitter)) old new result
