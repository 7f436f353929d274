-- What a call does for a command, by the command's files and by what is right to print.
use Rattle.std.specs.Prelude.{◌≡◌, ℕ, List, true, false}
use Rattle.lt_io.specs.Visits.{Errand, Visited}
use Rattle.lt_answer.specs.Answered.{Verdict}
use Rattle.lt_text_answers.specs.declared.refusal.Refusal.{Refusal}
use Rattle.lt_text_answers.specs.declared.status.Status.{Status}
use Rattle.lt_text_answers.specs.declared.status.Status.TheVariants as status
use Rattle.lt_cli.specs.Objects.{Objects}
use Rattle.lt_cli.specs.Ran.{Ran}

-- a call with these errands visits its files
pub record Visits (errands : List Errand) (old new : Objects) (ends : Status) : Type 0 where
  -- in their order, each once and within its errand, and no others; it may have stopped behind any of them
  pub within : Visited errands old.files.visits new.files.visits false
  -- and all of them where it ends well
  pub all : ends ≡ status.Ok → Visited errands old.files.visits new.files.visits true

-- what a call does for a command with these errands and this verdict on its text; the status never says that the words are wrong
pub record ObeysErrands (errands : List Errand) (V : Verdict (List ℕ) Refusal) (old new : Objects) (ends : Status) : Type 0 where
  pub ran : Ran V old new ends
  pub visits : Visits errands old new ends
  pub not_words : ends ≡ status.Words → ⊥
