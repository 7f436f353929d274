-- What is right of a setup, and of what a command is of, where a protocol may be no more than its timing: no link loses messages, and no node
-- leads.
use Rattle.std.specs.Prelude.{◌≡◌, ℕ, List, Option, codes}
use Rattle.lt_config.specs.declared.config.Config.{Config}
use Rattle.lt_config.specs.declared.fault.ConfigKind.TheVariants.{OutOfRange}
use Rattle.lt_arch.specs.declared.pace.Pace.TheVariants.{Plain}
use Rattle.lt_answer.specs.Answered.{Verdict, AndThen}
use Rattle.lt_front.specs.Examined.{ExaminedText}
use Rattle.lt_load_fit.specs.declared.fault.CommandFault.{CommandFault}
use Rattle.lt_load_fit.specs.declared.fault.CommandFault.TheVariants as fault
use Rattle.lt_load_fit.specs.Fits.{SetupPasses}
use Rattle.lt_load.specs.Loaded.{program_verdict, config_verdict}
use Rattle.lt_load.specs.Plan.{Plan, fitting_plan_verdict}

-- the protocol of a setup is outside the range of those that are no more than their timing
abbrev pub pace_fault : CommandFault
pace_fault = fault.Config (record { kind = OutOfRange; key = codes "protocol" })

-- a setup with such a protocol
unfoldable pub unpaced_verdict : Config → Verdict Config CommandFault
unpaced_verdict setup = SetupPasses setup (setup.pace ≡ Plain) (λ e. e ≡ pace_fault)

-- that of a file
unfoldable pub plain_config_verdict : Option (List ℕ) → Verdict Config CommandFault
plain_config_verdict file = AndThen (config_verdict file) (λ setup. unpaced_verdict setup)

-- a program: such a setup, the placement and the timing, and the rows of inputs
unfoldable pub plain_setup_plan_verdict : (named : List ℕ → Option (List ℕ)) (inputs config : List ℕ) → ExaminedText → Verdict Plan CommandFault
plain_setup_plan_verdict named inputs config checked = AndThen (plain_config_verdict (named config)) (λ setup. fitting_plan_verdict named inputs checked setup)

-- the program, such a setup, the placement, the timing and the inputs, in this order
unfoldable pub plain_load_verdict : (named : List ℕ → Option (List ℕ)) (program inputs config : List ℕ) → Verdict Plan CommandFault
plain_load_verdict named program inputs config = AndThen (program_verdict (named program)) (λ checked. plain_setup_plan_verdict named inputs config checked)
