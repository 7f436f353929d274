-- The schedule of what was loaded is that of the plan that it was loaded from.
use Rattle.std.proofs.Common.{◌≡◌, ℕ, Bool, true, false, List, length, Option, Result, Ok, Err, refl, sym, ap, subst, arith}
use Rattle.std.specs.Prelude.{if◌then◌else◌}
use Rattle.lt_base.specs.declared.memory.Or.{Or}
use Rattle.lt_base.specs.declared.memory.Or.TheVariants.{Fault, Memory}
use Rattle.lt_base.specs.Inputs.{InputTable}
use Rattle.lt_arch.specs.declared.pace.Pace.{Pace}
use Rattle.lt_arch.specs.declared.pace.Pace.TheVariants.{Plain, Lossy, Leader}
use Rattle.lt_arch.specs.declared.shape.Shape.{Shape}
use Rattle.lt_arch.specs.declared.timing.Timing.{Timing}
use Rattle.lt_narrow.specs.Narrow.{HasBoundsWithin}
use Rattle.lt_lead.specs.Paced.{IsShapeBy}
use Rattle.lt_answer.specs.Answered.{Settles, Verdict}
use Rattle.lt_answer.specs.World.{Content}
use Rattle.lt_load_fit.specs.declared.fault.CommandFault.{CommandFault}
use Rattle.lt_load.specs.Blamed.{command_blame}
use Rattle.lt_load.specs.Plan.{LoadedPlan, IsLoadedFrom, Plan}
use Rattle.lt_load.proofs.Steps.{IsContent}
use Rattle.lt_load_fit.specs.Rows.{too_many_events}
use Rattle.lt_scheduling.specs.Scheduled.{IsDrawnBy, asks_losses, losses_fault, paced_verdict, plan_schedule_verdict, schedule_verdict_by, text_by_pace, unless_asked}
use Rattle.lt_scheduling.specs.Stage.{drawn_by_verdict, jittered_verdict, loaded_schedule_verdict}

-- By a timing with this jitter.

-- each timing is within its own bounds
pub own_within : (t : Timing) → HasBoundsWithin t t
own_within t = record {
  protocol = refl;
  count = refl;
  send = λ n. refl;
  execute = λ n. refl;
  least = λ n. omega arith;
  greatest = λ n. omega arith;
  shortest = λ i j. omega arith;
  longest = λ i j. omega arith;
}

pub jittered : (loss seed horizon : ℕ) (jitter : Option ℕ) (k : LoadedPlan) (narrow : Timing) (r : Result (List ℕ) (Or CommandFault)) → IsDrawnBy jitter k.timing narrow → Settles (drawn_by_verdict k.pace loss seed horizon k narrow) r
    → Settles (jittered_verdict loss seed horizon jitter k) r
jittered loss seed horizon jitter k narrow (Ok text) by right = (narrow, by, right)
jittered loss seed horizon jitter k narrow (Err (Fault f)) by right = (narrow, by, right)
jittered loss seed horizon jitter k narrow (Err Memory) by right = tt

-- A refusal is that of what was read.

many_content : {D : Type 0} (b : Bool) (d : D) (e : CommandFault) → (if b then Err too_many_events else Ok d) ≡ Err e → command_blame e ≡ Content
many_content true d e is = let same : too_many_events ≡ e = cc in ap command_blame (sym same)
many_content false d e is = cc

text_content : (pace : Pace) (loss : ℕ) (s : Shape) (own narrow : Timing) (rows seed horizon : ℕ) (e : CommandFault) → text_by_pace pace loss s own narrow rows seed horizon (Err e) → command_blame e ≡ Content
text_content Plain loss s own narrow rows seed horizon e (is, shows) = many_content _ _ e is
text_content (Lossy limit) loss s own narrow rows seed horizon e (is, shows) = many_content _ _ e is
text_content (Leader leader) loss s own narrow rows seed horizon e (is, shows) = many_content _ _ e is

jittered_content : (loss seed horizon : ℕ) (jitter : Option ℕ) (k : LoadedPlan) (e : CommandFault) → jittered_verdict loss seed horizon jitter k (Err e) → command_blame e ≡ Content
jittered_content loss seed horizon jitter k e (narrow, by, text) = text_content k.pace loss k.shape k.timing narrow (length k.inputs.rows) seed horizon e text

unless_content : (asked : Bool) (V : Verdict (List ℕ) CommandFault) → IsContent command_blame V → IsContent command_blame (unless_asked asked V)
unless_content true V of e right = let same : losses_fault ≡ e = cc in ap command_blame (sym same)
unless_content false V of e right = of e right

pub drawn_content : (loss seed horizon : ℕ) (jitter : Option ℕ) (k : LoadedPlan) → IsContent command_blame (loaded_schedule_verdict loss seed horizon jitter k)
drawn_content loss seed horizon jitter k = unless_content (asks_losses k.pace loss) (jittered_verdict loss seed horizon jitter k) (jittered_content loss seed horizon jitter k)

-- What is right of what was loaded is right of its plan.

unless_right : (asked : Bool) (V W : Verdict (List ℕ) CommandFault) → ((o : Result (List ℕ) CommandFault) → V o → W o) → (o : Result (List ℕ) CommandFault) → unless_asked asked V o → unless_asked asked W o
unless_right true V W wider o right = right
unless_right false V W wider o right = wider o right

module _ (loss seed horizon : ℕ) (jitter : Option ℕ) (k : LoadedPlan) (p : Plan) (from : IsLoadedFrom p k) where
  paced_right : (o : Result (List ℕ) CommandFault) → jittered_verdict loss seed horizon jitter k o → paced_verdict k.pace loss seed horizon jitter p o
  paced_right o (narrow, by, text) = (
    k.layout,
    k.shape,
    narrow,
    record { layout = from.layout; shape = subst (λ (q : Pace × Timing). IsShapeBy k.layout q.0 q.1 k.shape) (λ i. (from.pace i, from.timing i)) from.shape },
    subst (λ (t : Timing). IsDrawnBy jitter t narrow) from.timing by,
    subst (λ (q : Timing × InputTable). text_by_pace k.pace loss k.shape q.0 narrow (length q.1.rows) seed horizon o) (λ i. (from.timing i, from.inputs i)) text,
  )

  pub text_right : (o : Result (List ℕ) CommandFault) → loaded_schedule_verdict loss seed horizon jitter k o → plan_schedule_verdict loss seed horizon jitter p o
  unfolding plan_schedule_verdict
  text_right o right =
      subst (λ (pace : Pace). schedule_verdict_by pace loss seed horizon jitter p o) from.pace
      (unless_right (asks_losses k.pace loss) (jittered_verdict loss seed horizon jitter k) (paced_verdict k.pace loss seed horizon jitter p) paced_right o right)
