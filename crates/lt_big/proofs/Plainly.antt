-- In what the large input is loaded as the protocol is no more than its timing.
use Rattle.std.proofs.Common.{◌≡◌, ◌∙◌, ℕ, List, Option, Ok, inl, inr, ap}
use Rattle.lt_front.specs.Examined.{ExaminedText}
use Rattle.lt_config.specs.declared.config.Config.{Config}
use Rattle.lt_arch.specs.declared.pace.Pace.TheVariants.{Plain}
use Rattle.lt_load_fit.specs.Fits.{accepted_verdict, fitting_verdict, placed_verdict, timed_verdict, windowed_verdict}
use Rattle.lt_load.specs.Plan.{Plan, LoadedPlan, Loads, fitting_plan_verdict, inputs_plan_verdict}
use Rattle.lt_load.specs.Pacing.{plain_config_verdict, plain_load_verdict, plain_setup_plan_verdict, unpaced_verdict}
use Rattle.lt_big.specs.Big.{big_loaded_verdict}

-- a setup that fits is the one that was read
same_timed : (setup accepted : Config) → accepted_verdict setup (Ok accepted) → accepted ≡ setup
unfolding accepted_verdict timed_verdict windowed_verdict
same_timed setup accepted (inl refused) = absurd refused
same_timed setup accepted (inr (timed, accepts, windowed)) = windowed.1 ∙ accepts.1

same_setup : (checked : ExaminedText) (setup fitting : Config) → fitting_verdict checked setup (Ok fitting) → fitting ≡ setup
unfolding fitting_verdict placed_verdict
same_setup checked setup fitting (inl refused) = absurd refused
same_setup checked setup fitting (inr (legal, placed, accepted)) = same_timed legal fitting accepted ∙ placed.1

-- and stays in the plan
planned : (named : List ℕ → Option (List ℕ)) (inputs : List ℕ) (checked : ExaminedText) (setup : Config) (p : Plan) → inputs_plan_verdict named inputs checked setup (Ok p) → p.setup ≡ setup
unfolding inputs_plan_verdict
planned named inputs checked setup p (inl refused) = absurd refused
planned named inputs checked setup p (inr (table, read, is)) = cc

pub fitted : (named : List ℕ → Option (List ℕ)) (inputs : List ℕ) (checked : ExaminedText) (setup : Config) (p : Plan) → fitting_plan_verdict named inputs checked setup (Ok p) → p.setup ≡ setup
unfolding fitting_plan_verdict
fitted named inputs checked setup p (inl refused) = absurd refused
fitted named inputs checked setup p (inr (fitting, fits, planned_is)) = planned named inputs checked fitting p planned_is ∙ same_setup checked setup fitting fits

unpaced : (file : Option (List ℕ)) (setup : Config) → plain_config_verdict file (Ok setup) → setup.pace ≡ Plain
unfolding plain_config_verdict unpaced_verdict
unpaced file setup (inl refused) = absurd refused
unpaced file setup (inr (read, held, passed)) = ap (λ (c : Config). c.pace) passed.1 ∙ passed.0

set_up : (named : List ℕ → Option (List ℕ)) (inputs config : List ℕ) (checked : ExaminedText) (p : Plan) → plain_setup_plan_verdict named inputs config checked (Ok p) → p.setup.pace ≡ Plain
unfolding plain_setup_plan_verdict
set_up named inputs config checked p (inl refused) = absurd refused
set_up named inputs config checked p (inr (setup, read, fits)) = ap (λ (c : Config). c.pace) (fitted named inputs checked setup p fits) ∙ unpaced (named config) setup read

pub plain_pace : (named : List ℕ → Option (List ℕ)) (program inputs config : List ℕ) (p : Plan) → plain_load_verdict named program inputs config (Ok p) → p.setup.pace ≡ Plain
unfolding plain_load_verdict
plain_pace named program inputs config p (inl refused) = absurd refused
plain_pace named program inputs config p (inr (checked, examined, is)) = set_up named inputs config checked p is

pub plain_plan : (instants : ℕ) (p : Plan) → big_loaded_verdict instants (Ok p) → p.setup.pace ≡ Plain
unfolding big_loaded_verdict
plain_plan instants p is = plain_pace _ _ _ _ p is

pub plain_loaded : (instants : ℕ) (k : LoadedPlan) → Loads (big_loaded_verdict instants) (Ok k) → k.pace ≡ Plain
plain_loaded instants k (p, is, from) = from.pace ∙ plain_plan instants p is
