-- `plan`: the least countdowns of a setup, its cycles and its bounds.
use Rattle.std.specs.Prelude.{ℕ, List, Option, Result}
use Rattle.lt_base.specs.declared.memory.Or.{Or}
use Rattle.lt_io.specs.FilesState.{FilesState}
use Rattle.lt_config.specs.declared.config.Config.{Config}
use Rattle.lt_answer.specs.Answered.{Verdict}
use Rattle.lt_answer.specs.World.{alone}
use Rattle.lt_text_lines.specs.PlanText.{plan_of}
use Rattle.lt_load_fit.specs.declared.fault.CommandFault.{CommandFault}
use Rattle.lt_load.specs.Errands.{config_errand}
use Rattle.lt_load.specs.Loaded.{config_verdict}
use Rattle.lt_text_answers.specs.declared.refusal.Refusal.{Refusal}
use Rattle.lt_cli.specs.Answers.{AnswersText}

-- the setup of this name, or its first fault
abbrev pub plan_verdict : (named : List ℕ → Option (List ℕ)) (config : List ℕ) → Verdict Config CommandFault
plan_verdict named config = config_verdict (named config)

-- the setup is read: its plan, with a horizon the bounds for it too, or the refusal
abbrev pub AnswersPlan : (config : List ℕ) (horizon : Option ℕ) (old new : FilesState) → Result (List ℕ) (Or Refusal) → Type 0
AnswersPlan config horizon old new result = AnswersText (λ setup. plan_of setup horizon) (config_errand config) (plan_verdict old.named config) (alone old) (alone new) result
