-- Whose fault a refusal is.
use Rattle.lt_answer.specs.World.{Blame, Content}
use Rattle.lt_text_answers.specs.declared.refusal.Refusal.{Refusal}
use Rattle.lt_text_answers.specs.declared.refusal.Refusal.TheVariants.{Words, LttacWords, NoNode, Command, Observer}
use Rattle.lt_load.specs.Blamed.{command_blame}

abbrev pub blame_of : Refusal → Blame
blame_of Words = Content
blame_of LttacWords = Content
blame_of (NoNode name) = Content
blame_of (Command fault) = command_blame fault
blame_of (Observer fault) = Content
