-- `watch`: a run, and where an observer of its outputs first fails.
use Rattle.std.specs.Prelude.{ℕ, List, Option, Result}
use Rattle.std.specs.Borrow.{Bor}
use Rattle.lt_base.specs.declared.memory.Or.{Or}
use Rattle.lt_io.specs.FabricState.{FabricState}
use Rattle.lt_io.specs.FilesState.{FilesState}
use Rattle.lt_answer.specs.World.{world}
use Rattle.lt_watch.specs.Errands.{watch_errands}
pub use Rattle.lt_watch.specs.Watch.{watch_verdict}
use Rattle.lt_text_answers.specs.declared.refusal.Refusal.{Refusal}
use Rattle.lt_text_answers.specs.Replies.{watch_refusal}
use Rattle.lt_text_answers.specs.Texts.{watched_text}
use Rattle.lt_answer.specs.Alone.{given_word}
use Rattle.lt_cli.specs.Answers.{AnswersCommand}

-- the program, the setup if there is one, the inputs, the observer and the schedule are read, and the fabric takes the messages: what the observer
-- makes of the outputs, or the first refusal. What the objects hold is read off them by these two functions
abbrev pub AnswersWatch : {F W : Type 0} (files : F → FilesState) (fabric : W → FabricState) (program inputs schedule observer : List ℕ) (config : Option (Bor (List ℕ))) (before after : F) (old new : W) → Result (List ℕ) (Or Refusal) → Type 0
AnswersWatch files fabric program inputs schedule observer config before after old new result =
    AnswersCommand watch_refusal watched_text (watch_errands program inputs schedule observer (given_word config)) (watch_verdict (files before).named program inputs schedule observer (given_word config) (world (files after) (fabric new))) (world (files before) (fabric old)) (world (files after) (fabric new)) result
