-- Where no node may lead, one plan is left, or one refusal up to its kind.
use Rattle.std.proofs.Common.{◌≡◌, ◌∙◌, ℕ, List, Option, sym, ap}
use Rattle.lt_config.specs.declared.config.Config.{Config}
use Rattle.lt_arch.specs.declared.pace.Pace.TheVariants.{Plain}
use Rattle.lt_front.specs.Examined.{ExaminedText}
use Rattle.lt_answer.proofs.Decided.{HasOneOutcome, and_then_one}
use Rattle.lt_load_fit.specs.declared.fault.CommandFault.{CommandFault}
use Rattle.lt_load.specs.Loaded.{program_verdict, config_verdict}
use Rattle.lt_load.specs.Pacing.{pace_fault, unpaced_verdict, plain_config_verdict, plain_setup_plan_verdict, plain_load_verdict}
use Rattle.lt_load.proofs.OneLoad.{TellsLimits, program_decided}
use Rattle.lt_load.proofs.OneCheck.{MergesPlaces, MergesTimings, config_once, passes_decided}
use Rattle.lt_load.proofs.OnePlan.{fitting_plan_decided}

module _ {K : Type 0} (kind : CommandFault → K) where
  unpaced_decided : (setup : Config) → HasOneOutcome kind (unpaced_verdict setup)
  unfolding unpaced_verdict
  unpaced_decided setup = passes_decided kind setup (setup.pace ≡ Plain) (λ e. e ≡ pace_fault) (λ e f p q. ap kind (p ∙ sym q))

  pub plain_config_decided : (file : Option (List ℕ)) → HasOneOutcome kind (plain_config_verdict file)
  unfolding plain_config_verdict
  plain_config_decided file = and_then_one kind (config_verdict file) (λ setup. unpaced_verdict setup) (config_once kind file) (λ setup. unpaced_decided setup)

  module _ (along : TellsLimits kind) (places : MergesPlaces kind) (timings : MergesTimings kind) (named : List ℕ → Option (List ℕ)) where
    plain_setup_plan_decided : (inputs config : List ℕ) (checked : ExaminedText) → HasOneOutcome kind (plain_setup_plan_verdict named inputs config checked)
    unfolding plain_setup_plan_verdict
    plain_setup_plan_decided inputs config checked =
        and_then_one kind (plain_config_verdict (named config)) _ (plain_config_decided (named config)) (λ setup. fitting_plan_decided kind along places timings named inputs checked setup)

    pub plain_load_decided : (program inputs config : List ℕ) → HasOneOutcome kind (plain_load_verdict named program inputs config)
    unfolding plain_load_verdict
    plain_load_decided program inputs config =
        and_then_one kind (program_verdict (named program)) _ (program_decided kind along (named program)) (λ checked. plain_setup_plan_decided inputs config checked)
