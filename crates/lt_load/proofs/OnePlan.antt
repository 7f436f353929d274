-- Loading leaves one plan, or one refusal up to its kind.
use Rattle.std.proofs.Common.{◌∙◌, ℕ, List, Option, Some, None, Ok, sym}
use Rattle.lt_base.specs.Program.{WholeProgram}
use Rattle.lt_inputs.specs.Inputs.{inputs_of}
use Rattle.lt_config.specs.declared.config.Config.{Config}
use Rattle.lt_config.proofs.OneSetup.{one_setup}
use Rattle.lt_front.specs.Examined.{ExaminedText}
use Rattle.lt_answer.specs.Rules.{Exactly}
use Rattle.lt_answer.proofs.Decided.{HasOneOutcome, exactly, and_then_one, raised_one}
use Rattle.lt_load_fit.specs.declared.fault.What.TheVariants.{InputsBytes}
use Rattle.lt_load_fit.specs.declared.fault.CommandFault.{CommandFault}
use Rattle.lt_load_fit.specs.declared.fault.CommandFault.TheVariants as fault
use Rattle.lt_load_fit.specs.Main.{main_in}
use Rattle.lt_load_fit.specs.Fits.{fitting_verdict}
use Rattle.lt_load.specs.Loaded.{whole_verdict, program_verdict, inputs_verdict}
use Rattle.lt_load.specs.Plan.{plain_verdict, chosen_setup_verdict, inputs_plan_verdict, fitting_plan_verdict, setup_plan_verdict, load_verdict}
use Rattle.lt_load.proofs.OneLoad.{TellsLimits, whole_decided, program_decided}
use Rattle.lt_load.proofs.OneCheck.{MergesPlaces, MergesTimings, config_once, fitting_decided}

module _ {K : Type 0} (kind : CommandFault → K) where
  pub inputs_decided : (p : WholeProgram) (file : Option (List ℕ)) → HasOneOutcome kind (inputs_verdict p file)
  unfolding inputs_verdict
  inputs_decided p file =
      and_then_one kind (whole_verdict InputsBytes file) _ (whole_decided kind InputsBytes file)
      (λ bytes. raised_one (λ e. fault.Inputs e) kind (Exactly (inputs_of (main_in p) bytes)) (exactly (λ e. kind (fault.Inputs e)) (inputs_of (main_in p) bytes)))

  plain_decided : HasOneOutcome kind plain_verdict
  plain_decided = record { faults = record { one_kind = λ e f p q. absurd p; not_both = λ e x p q. p }; one_value = λ x y p q. one_setup x y (p ∙ sym q) }

  chosen_setup_decided : (named : List ℕ → Option (List ℕ)) (config : Option (List ℕ)) → HasOneOutcome kind (chosen_setup_verdict named config)
  chosen_setup_decided named None = plain_decided
  chosen_setup_decided named (Some config) = config_once kind (named config)

  inputs_plan_decided : (named : List ℕ → Option (List ℕ)) (inputs : List ℕ) (checked : ExaminedText) (setup : Config) → HasOneOutcome kind (inputs_plan_verdict named inputs checked setup)
  unfolding inputs_plan_verdict
  inputs_plan_decided named inputs checked setup = and_then_one kind (inputs_verdict checked.program (named inputs)) _ (inputs_decided checked.program (named inputs)) (λ table. exactly kind (Ok _))

  module _ (along : TellsLimits kind) (places : MergesPlaces kind) (timings : MergesTimings kind) (named : List ℕ → Option (List ℕ)) where
    pub fitting_plan_decided : (inputs : List ℕ) (checked : ExaminedText) (setup : Config) → HasOneOutcome kind (fitting_plan_verdict named inputs checked setup)
    unfolding fitting_plan_verdict
    fitting_plan_decided inputs checked setup =
        and_then_one kind (fitting_verdict checked setup) _ (fitting_decided kind along places timings checked setup) (λ fitting. inputs_plan_decided named inputs checked fitting)

    setup_plan_decided : (inputs : List ℕ) (config : Option (List ℕ)) (checked : ExaminedText) → HasOneOutcome kind (setup_plan_verdict named inputs config checked)
    unfolding setup_plan_verdict
    setup_plan_decided inputs config checked =
        and_then_one kind (chosen_setup_verdict named config) _ (chosen_setup_decided named config) (λ setup. fitting_plan_decided inputs checked setup)

    -- right refusals are of one kind, and then no plan is right; and at most one plan is
    pub load_decided : (program inputs : List ℕ) (config : Option (List ℕ)) → HasOneOutcome kind (load_verdict named program inputs config)
    unfolding load_verdict
    load_decided program inputs config =
        and_then_one kind (program_verdict (named program)) _ (program_decided kind along (named program)) (λ checked. setup_plan_decided inputs config checked)
