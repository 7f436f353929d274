-- At most one schedule is right, or all right refusals are of one kind.
use Rattle.std.proofs.Common.{◌≡◌, ◌∙◌, ℕ, Bool, true, false, List, length, Option, Some, Result, Ok, Err, sym, ap, subst}
use Rattle.lt_arch.specs.declared.pace.Pace.{Pace}
use Rattle.lt_arch.specs.declared.pace.Pace.TheVariants.{Plain, Lossy, Leader}
use Rattle.lt_arch.specs.declared.shape.Shape.{Shape}
use Rattle.lt_arch.specs.declared.timing.Timing.{Timing}
use Rattle.lt_front.specs.Flattened.{flat_of}
use Rattle.lt_answer.specs.Answered.{Verdict}
use Rattle.lt_answer.specs.Rules.{Shown}
use Rattle.lt_answer.proofs.Decided.{HasOneKind, and_then}
use Rattle.lt_load_fit.specs.declared.fault.CommandFault.{CommandFault}
use Rattle.lt_load.specs.Plan.{Plan, load_verdict}
use Rattle.lt_load.proofs.OneCheck.{MergesPlaces, MergesTimings}
use Rattle.lt_load.proofs.OneLoad.{TellsLimits}
use Rattle.lt_load.proofs.OnePlan.{load_decided}
use Rattle.lt_load.proofs.OneShape.{one_shape}
use Rattle.lt_load_fit.specs.Rows.{too_many_events}
use Rattle.lt_text_answers.specs.Draws.{ShowsDrawing, drawing}
use Rattle.lt_text_answers.specs.Texts.{drawing_text}
use Rattle.lt_scheduling.specs.Losses.{ShowsListing, listing_text, lossy_listing}
use Rattle.lt_scheduling.specs.Scheduled.{asks_losses, paced_verdict, plan_schedule_verdict, schedule_verdict, text_by_pace, unless_asked}
use Rattle.lt_scheduling.proofs.OneTiming.{one_by}

-- the fault of an outcome
abbrev error_in : {T : Type 0} → Result T CommandFault → CommandFault
error_in (Ok x) = too_many_events
error_in (Err e) = e

-- of two right outcomes of a plan both are drawn over the same channels, by the same timing
aligned : (pace : Pace) (loss seed horizon : ℕ) (jitter : Option ℕ) (plan : Plan) (o o' : Result (List ℕ) CommandFault) → paced_verdict pace loss seed horizon jitter plan o → paced_verdict pace loss seed horizon jitter plan o'
    → (s : Shape) × (narrow : Timing) × text_by_pace pace loss s plan.setup.timing narrow (length plan.inputs.rows) seed horizon o × text_by_pace pace loss s plan.setup.timing narrow (length plan.inputs.rows) seed horizon o'
aligned pace loss seed horizon jitter plan o o' (l, s, narrow, laid, by, text) (m, z, tight, other, also, too) =
    let shape : z ≡ s = one_shape (flat_of plan.checked.program) plan.setup.placement m l other.layout laid.layout plan.setup.pace plan.setup.timing z s other.shape laid.shape in
    let timing : tight ≡ narrow = one_by jitter plan.setup.timing tight narrow also by in
    (s, narrow, text, subst (λ (q : Shape × Timing). text_by_pace pace loss q.0 plan.setup.timing q.1 (length plan.inputs.rows) seed horizon o') (λ i. (shape i, timing i)) too)

module _ {K : Type 0} (kind : CommandFault → K) where
  -- one outcome, and its text
  one_shown : {D : Type 0} (text : D → List ℕ) (found : Result D CommandFault) (Shows : Result D CommandFault → Type 0) → HasOneKind kind (Shown text (λ outcome. (found ≡ outcome) × Shows outcome))
  one_shown {D} text found Shows = record {
    one_kind = λ e f p q. ap (λ (r : Result D CommandFault). kind (error_in r)) (sym p.0 ∙ q.0);
    not_both = λ e shown p q. (let same = sym p.0 ∙ q.1.0 in cc);
  }

  text_decided : (pace : Pace) (loss : ℕ) (s : Shape) (own narrow : Timing) (rows seed horizon : ℕ) → HasOneKind kind (text_by_pace pace loss s own narrow rows seed horizon)
  text_decided Plain loss s own narrow rows seed horizon = one_shown drawing_text (drawing s narrow rows seed horizon) (λ o. ShowsDrawing s own rows horizon o)
  text_decided (Lossy limit) loss s own narrow rows seed horizon = one_shown listing_text (lossy_listing s narrow limit rows loss seed horizon) (λ o. ShowsListing s own limit rows horizon o)
  text_decided (Leader leader) loss s own narrow rows seed horizon = one_shown drawing_text (drawing s narrow rows seed horizon) (λ o. ShowsDrawing s own rows horizon o)

  paced_decided : (pace : Pace) (loss seed horizon : ℕ) (jitter : Option ℕ) (plan : Plan) → HasOneKind kind (paced_verdict pace loss seed horizon jitter plan)
  paced_decided pace loss seed horizon jitter plan = record {
    one_kind = λ e f p q.
        let h = aligned pace loss seed horizon jitter plan (Err e) (Err f) p q in
        (text_decided pace loss h.0 plan.setup.timing h.1 (length plan.inputs.rows) seed horizon).one_kind e f h.2 h.3;
    not_both = λ e text p q.
        let h = aligned pace loss seed horizon jitter plan (Err e) (Ok text) p q in
        (text_decided pace loss h.0 plan.setup.timing h.1 (length plan.inputs.rows) seed horizon).not_both e text h.2 h.3;
  }

  unless_decided : (asked : Bool) (V : Verdict (List ℕ) CommandFault) → HasOneKind kind V → HasOneKind kind (unless_asked asked V)
  unless_decided true V one = record {
    one_kind = λ e f p q. ap (λ (r : Result (List ℕ) CommandFault). kind (error_in r)) (sym p ∙ q);
    not_both = λ e text p q. (let same = sym p ∙ q in cc);
  }
  unless_decided false V one = record { one_kind = one.one_kind; not_both = one.not_both }

  plan_decided : (loss seed horizon : ℕ) (jitter : Option ℕ) (plan : Plan) → HasOneKind kind (plan_schedule_verdict loss seed horizon jitter plan)
  unfolding plan_schedule_verdict
  plan_decided loss seed horizon jitter plan = unless_decided (asks_losses plan.setup.pace loss) (paced_verdict plan.setup.pace loss seed horizon jitter plan) (paced_decided plan.setup.pace loss seed horizon jitter plan)

  pub schedule_decided : TellsLimits kind → MergesPlaces kind → MergesTimings kind → (named : List ℕ → Option (List ℕ)) (program inputs config : List ℕ) (loss seed horizon : ℕ) (jitter : Option ℕ) → HasOneKind kind (schedule_verdict named program inputs config loss seed horizon jitter)
  unfolding schedule_verdict
  schedule_decided along places timings named program inputs config loss seed horizon jitter =
      and_then kind (load_verdict named program inputs (Some config)) _ (load_decided kind along places timings named program inputs (Some config)) (λ plan. plan_decided loss seed horizon jitter plan)
