-- `run`: a program along a recorded schedule, on one node or on those of a setup.
use Rattle.std.specs.Prelude.{ℕ, List, Option, Result}
use Rattle.std.specs.Borrow.{Bor}
use Rattle.lt_base.specs.declared.memory.Or.{Or}
use Rattle.lt_io.specs.FabricState.{FabricState}
use Rattle.lt_io.specs.FilesState.{FilesState}
use Rattle.lt_answer.specs.World.{world}
use Rattle.lt_run.specs.Errands.{run_errands}
pub use Rattle.lt_run.specs.Run.{run_verdict}
use Rattle.lt_text_answers.specs.declared.refusal.Refusal.{Refusal}
use Rattle.lt_text_answers.specs.Replies.{printed_text}
use Rattle.lt_answer.specs.Alone.{given_word}
use Rattle.lt_cli.specs.Answers.{AnswersText}

-- the program, the setup if there is one, the inputs and the schedule are read, and the fabric takes the messages: a line of cells for each
-- output, or the first refusal. What the objects hold is read off them by these two functions
abbrev pub AnswersRun : {F W : Type 0} (files : F → FilesState) (fabric : W → FabricState) (program inputs schedule : List ℕ) (config : Option (Bor (List ℕ))) (before after : F) (old new : W) → Result (List ℕ) (Or Refusal) → Type 0
AnswersRun files fabric program inputs schedule config before after old new result =
    AnswersText printed_text (run_errands program inputs schedule (given_word config)) (run_verdict (files before).named program inputs schedule (given_word config) (world (files after) (fabric new))) (world (files before) (fabric old)) (world (files after) (fabric new)) result
