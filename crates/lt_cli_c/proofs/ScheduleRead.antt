-- What a drawn schedule shows, from its verdict.
use Rattle.std.proofs.Common.{◌≡◌, ◌∙◌, ℕ, Bool, true, false, List, length, Option, Some, Ok, refl, ap, subst, inl, inr}
use Rattle.lt_arch.specs.declared.event.Event.{Event}
use Rattle.lt_arch.specs.declared.pace.Pace.{Pace}
use Rattle.lt_arch.specs.declared.pace.Pace.TheVariants.{Plain, Lossy, Leader}
use Rattle.lt_arch.specs.declared.shape.Shape.{Shape}
use Rattle.lt_arch.specs.declared.timing.Timing.{Timing}
use Rattle.lt_answer.specs.Answered.{AndThen, Verdict}
use Rattle.lt_load_fit.specs.declared.fault.CommandFault.{CommandFault}
use Rattle.lt_load.specs.Plan.{Plan, load_verdict}
use Rattle.lt_lossy.specs.declared.event.LossyEvent.{LossyEvent}
use Rattle.lt_net_lossy.specs.Rules.{lossy_rules_of}
use Rattle.lt_run.specs.Kinds.{EventsBy, verdict_by}
use Rattle.lt_schedule.specs.Rules.{file_judged_by}
use Rattle.lt_schedule.specs.Verdict.{verdict}
use Rattle.lt_sim.specs.Drawn.{drawn}
use Rattle.lt_sim.specs.Laws.{IsSimShown}
use Rattle.lt_losing.specs.Losing.{lossy_drawn}
use Rattle.lt_losing.specs.Laws.{IsLossyShown}
use Rattle.lt_scheduling.specs.Losses.{LossyListing, listing_text}
use Rattle.lt_scheduling.specs.Scheduled.{arriving_verdict, asks_losses, losing_verdict, paced_verdict, plan_schedule_verdict, schedule_verdict, text_by_pace, unless_asked}
use Rattle.lt_text_answers.specs.Draws.{Drawing}
use Rattle.lt_text_answers.specs.Texts.{drawing_text}
use Rattle.lt_cli.specs.Objects.{Objects}
use Rattle.lt_cli.specs.Taken.{TookText}
use Rattle.lt_cli.proofs.DrawnRuns.{runs_on, within}
use Rattle.lt_cli_c.specs.ScheduleShown.{IsFileDrawn, IsLossyFileDrawn, IsScheduleShown, IsTextDrawn}

module _ (s : Shape) (own narrow : Timing) (rows seed horizon : ℕ) (text : List ℕ) where
  file_drawn : (d : Drawing) → text ≡ drawing_text d → arriving_verdict s own narrow rows seed horizon (Ok d) → IsFileDrawn s own narrow rows seed horizon text
  file_drawn d whole (is, shows) =
      let es : List Event = drawn s narrow rows seed horizon in
      let here = within _ (length es) (record { shape = s; events = es }) d refl is in
      record {
        events = es;
        drawn_are = refl;
        few = here.0;
        text_is = whole ∙ ap drawing_text here.1;
        shows = subst (λ (e : Drawing). IsSimShown s own rows horizon e.events) here.1 shows;
      }

  lossy_file_drawn : (limit loss : ℕ) (d : LossyListing) → text ≡ listing_text d → losing_verdict limit loss s own narrow rows seed horizon (Ok d) → IsLossyFileDrawn s own narrow limit loss rows seed horizon text
  lossy_file_drawn limit loss d whole (is, shows) =
      let es : List LossyEvent = lossy_drawn s narrow limit rows loss seed horizon in
      let here = within _ (length es) (record { shape = s; events = es }) d refl is in
      record {
        events = es;
        drawn_are = refl;
        few = here.0;
        text_is = whole ∙ ap listing_text here.1;
        shows = subst (λ (e : LossyListing). IsLossyShown s own limit rows horizon e.events) here.1 shows;
      }

  text_drawn : (pace : Pace) (loss : ℕ) → text_by_pace pace loss s own narrow rows seed horizon (Ok text) → IsTextDrawn pace loss s own narrow rows seed horizon text
  text_drawn Plain loss (d, right, whole) = file_drawn d whole right
  text_drawn (Lossy limit) loss (d, right, whole) = lossy_file_drawn limit loss d whole right
  text_drawn (Leader leader) loss (d, right, whole) = file_drawn d whole right

  -- the events that it reads as
  events_of : (pace : Pace) (loss : ℕ) → IsTextDrawn pace loss s own narrow rows seed horizon text → (events : EventsBy pace) × (verdict_by pace s own rows text ≡ Ok events)
  events_of Plain loss is = (is.events, ap (λ (t : List ℕ). verdict s own rows t) is.text_is ∙ is.shows.reads)
  events_of (Lossy limit) loss is = (is.events, ap (λ (t : List ℕ). file_judged_by (lossy_rules_of s own limit rows) t) is.text_is ∙ is.shows.reads)
  events_of (Leader leader) loss is = (is.events, ap (λ (t : List ℕ). verdict s own rows t) is.text_is ∙ is.shows.reads)

-- a text is right only where losses are not refused
not_asked : (asked : Bool) (V : Verdict (List ℕ) CommandFault) (text : List ℕ) → unless_asked asked V (Ok text) → (asked ≡ false) × V (Ok text)
not_asked true V text right = cc
not_asked false V text right = (refl, right)

module _ (named : List ℕ → Option (List ℕ)) (program inputs config : List ℕ) (loss seed horizon : ℕ) (jitter : Option ℕ) (old new : Objects) (shown : List ℕ) (took : TookText shown old new) where
  plan_shown : (p : Plan) → load_verdict named program inputs (Some config) (Ok p) → asks_losses p.setup.pace loss ≡ false → paced_verdict p.setup.pace loss seed horizon jitter p (Ok shown)
      → IsScheduleShown named program inputs config loss seed horizon jitter old new
  plan_shown p loaded unasked (l, s, narrow, laid, by, right) =
      let rows : ℕ = length p.inputs.rows in
      let is_drawn : IsTextDrawn p.setup.pace loss s p.setup.timing narrow rows seed horizon shown = text_drawn s p.setup.timing narrow rows seed horizon shown p.setup.pace loss right in
      let events = events_of s p.setup.timing narrow rows seed horizon shown p.setup.pace loss is_drawn in
      record {
        plan = p;
        loaded = loaded;
        unasked = unasked;
        layout = l;
        shape = s;
        laid = laid;
        narrow = narrow;
        drawn_by = by;
        text = shown;
        took = took;
        is_drawn = is_drawn;
        runs = runs_on p l s laid events.0 shown events.1;
      }

  steps : AndThen (load_verdict named program inputs (Some config)) (λ plan. plan_schedule_verdict loss seed horizon jitter plan) (Ok shown) → IsScheduleShown named program inputs config loss seed horizon jitter old new
  unfolding plan_schedule_verdict
  steps (inl refused) = absurd refused
  steps (inr (p, loaded, right)) =
      let both = not_asked (asks_losses p.setup.pace loss) (paced_verdict p.setup.pace loss seed horizon jitter p) shown right in
      plan_shown p loaded both.0 both.1

  pub schedule_shown : schedule_verdict named program inputs config loss seed horizon jitter (Ok shown) → IsScheduleShown named program inputs config loss seed horizon jitter old new
  unfolding schedule_verdict
  schedule_shown right = steps right
