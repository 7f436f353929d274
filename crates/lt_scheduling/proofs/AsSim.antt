-- A text of `sim` is one of a schedule with no loss and no jitter given.
use Rattle.std.proofs.Common.{◌≡◌, ℕ, List, Option, Some, None, Ok, inl, inr, refl, sym, subst}
use Rattle.lt_arch.specs.declared.pace.Pace.{Pace}
use Rattle.lt_arch.specs.declared.pace.Pace.TheVariants.{Plain}
use Rattle.lt_front.specs.Examined.{ExaminedText}
use Rattle.lt_config.specs.declared.config.Config.{Config}
use Rattle.lt_load.specs.Loaded.{config_verdict}
use Rattle.lt_load.specs.Plan.{Plan, load_verdict, setup_plan_verdict}
use Rattle.lt_load.specs.Pacing.{plain_config_verdict, plain_load_verdict, plain_setup_plan_verdict, unpaced_verdict}
use Rattle.lt_big.proofs.Plainly.{plain_pace}
use Rattle.lt_text_answers.specs.Draws.{Drawing, plan_drawn_verdict, sim_verdict}
use Rattle.lt_text_answers.specs.Texts.{drawing_text}
use Rattle.lt_scheduling.specs.Scheduled.{plan_schedule_verdict, schedule_verdict, schedule_verdict_by}
use Rattle.lt_scheduling.specs.Laws.{DrawsAsSim}

-- a setup that is no more than its timing is one that was read
setup_read : (file : Option (List ℕ)) (setup : Config) → plain_config_verdict file (Ok setup) → config_verdict file (Ok setup)
unfolding plain_config_verdict unpaced_verdict
setup_read file setup (inl refused) = absurd refused
setup_read file setup (inr (read, held, passed)) = subst (λ (c : Config). config_verdict file (Ok c)) (sym passed.1) held

setup_planned : (named : List ℕ → Option (List ℕ)) (inputs config : List ℕ) (checked : ExaminedText) (p : Plan) → plain_setup_plan_verdict named inputs config checked (Ok p) → setup_plan_verdict named inputs (Some config) checked (Ok p)
unfolding plain_setup_plan_verdict setup_plan_verdict
setup_planned named inputs config checked p (inl refused) = absurd refused
setup_planned named inputs config checked p (inr (setup, read, fits)) = inr (setup, setup_read (named config) setup read, fits)

load_planned : (named : List ℕ → Option (List ℕ)) (program inputs config : List ℕ) (p : Plan) → plain_load_verdict named program inputs config (Ok p) → load_verdict named program inputs (Some config) (Ok p)
unfolding plain_load_verdict load_verdict
load_planned named program inputs config p (inl refused) = absurd refused
load_planned named program inputs config p (inr (checked, examined, is)) = inr (checked, examined, setup_planned named inputs config checked p is)

plan_scheduled : (seed horizon : ℕ) (p : Plan) (d : Drawing) (text : List ℕ) → text ≡ drawing_text d → plan_drawn_verdict seed horizon p (Ok d) → schedule_verdict_by Plain 0 seed horizon None p (Ok text)
unfolding plan_drawn_verdict
plan_scheduled seed horizon p d text shown (l, s, laid, is, shows) = (l, s, p.setup.timing, laid, refl, (d, (is, shows), shown))

pub as_sim : DrawsAsSim
unfolding sim_verdict schedule_verdict plan_schedule_verdict
as_sim named program inputs config seed horizon text (d, inl refused, shown) = absurd refused
as_sim named program inputs config seed horizon text (d, inr (p, loaded, right), shown) = inr (
  p,
  load_planned named program inputs config p loaded,
  subst (λ (pace : Pace). schedule_verdict_by pace 0 seed horizon None p (Ok text)) (sym (plain_pace named program inputs config p loaded)) (plan_scheduled seed horizon p d text shown right),
)
