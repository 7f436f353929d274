-- A program of a file with a setup of one that fits it.
use Rattle.std.specs.Prelude.{ℕ, List, Option, Some, None, Ok}
use Rattle.lt_front.specs.Examined.{ExaminedText}
use Rattle.lt_config.specs.declared.config.Config.{Config}
use Rattle.lt_answer.specs.Answered.{Verdict, AndThen}
use Rattle.lt_answer.specs.Rules.{Exactly}
use Rattle.lt_load_fit.specs.declared.fault.CommandFault.{CommandFault}
use Rattle.lt_load_fit.specs.Fits.{fitting_verdict}
use Rattle.lt_load.specs.Loaded.{program_verdict, config_verdict}

-- the setup of a file for a program
unfoldable pub fitted_verdict : (named : List ℕ → Option (List ℕ)) → (config : List ℕ) → ExaminedText → Verdict Config CommandFault
fitted_verdict named config checked = AndThen (config_verdict (named config)) (λ setup. fitting_verdict checked setup)

-- a program, its setup, the placement and the timing, in this order
unfoldable pub with_setup_verdict : (named : List ℕ → Option (List ℕ)) (program config : List ℕ) → Verdict ExaminedText CommandFault
with_setup_verdict named program config =
    AndThen (program_verdict (named program)) (λ checked. AndThen (fitted_verdict named config checked) (λ fitting. Exactly (Ok checked)))

-- a program alone, or with a setup
abbrev pub check_verdict : (named : List ℕ → Option (List ℕ)) (program : List ℕ) → (config : Option (List ℕ)) → Verdict ExaminedText CommandFault
check_verdict named program None = program_verdict (named program)
check_verdict named program (Some config) = with_setup_verdict named program config
