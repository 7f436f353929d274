-- A program with a setup leaves one plan, or one refusal up to its kind.
use Rattle.std.proofs.Common.{◌∙◌, ℕ, List, Option, Some, None, Ok, sym, ap}
use Rattle.lt_config.specs.declared.config.Config.{Config}
use Rattle.lt_front.specs.Examined.{ExaminedText}
use Rattle.lt_answer.proofs.Decided.{HasOneOutcome, exactly, and_then_one}
use Rattle.lt_load_fit.specs.declared.fault.CommandFault.{CommandFault}
use Rattle.lt_load_fit.specs.Fits.{placed_verdict}
use Rattle.lt_load.specs.Loaded.{inputs_verdict}
use Rattle.lt_load.specs.Plan.{inputs_plan_verdict}
use Rattle.lt_load.proofs.OneLoad.{TellsLimits}
use Rattle.lt_load.proofs.OneCheck.{MergesPlaces, placed_decided}
use Rattle.lt_load.proofs.OnePlan.{inputs_decided}
use Rattle.lt_inspect.specs.Scenes.{named_node_verdict, named_place_verdict, placed_plan_verdict}

module _ {K : Type 0} (kind : CommandFault → K) where
  pub named_once : (checked : ExaminedText) (setup : Config) (node : Option (List ℕ)) → HasOneOutcome kind (named_node_verdict checked setup node)
  named_once checked setup None = exactly kind (Ok setup)
  named_once checked setup (Some name) = record {
    faults = record { one_kind = λ e f p q. ap kind (p.1 ∙ sym q.1); not_both = λ e x p q. (let same = sym p.0 ∙ q.1.1 in cc) };
    one_value = λ x y p q. p.0 ∙ sym q.0;
  }

  module _ (along : TellsLimits kind) (places : MergesPlaces kind) (named : List ℕ → Option (List ℕ)) (inputs : List ℕ) (node : Option (List ℕ)) where
    inputs_once : (checked : ExaminedText) (setup : Config) → HasOneOutcome kind (inputs_plan_verdict named inputs checked setup)
    unfolding inputs_plan_verdict
    inputs_once checked setup = and_then_one kind (inputs_verdict checked.program (named inputs)) _ (inputs_decided kind checked.program (named inputs)) (λ table. exactly kind (Ok _))

    place_once : (checked : ExaminedText) (setup : Config) → HasOneOutcome kind (named_place_verdict checked setup node)
    unfolding named_place_verdict
    place_once checked setup = and_then_one kind (placed_verdict checked setup) _ (placed_decided kind places checked setup) (λ legal. named_once checked legal node)

    pub placed_once : (checked : ExaminedText) (setup : Config) → HasOneOutcome kind (placed_plan_verdict named inputs node checked setup)
    unfolding placed_plan_verdict
    placed_once checked setup = and_then_one kind (named_place_verdict checked setup node) _ (place_once checked setup) (λ known. inputs_once checked known)
