-- What a drawn schedule shows, from its verdict.
use Rattle.std.proofs.Common.{◌≡◌, ℕ, List, length, Option, Ok, refl, subst, inl, inr}
use Rattle.lt_arch.specs.declared.event.Event.{Event}
use Rattle.lt_arch.specs.declared.pace.Pace.{Pace}
use Rattle.lt_arch.specs.declared.pace.Pace.TheVariants.{Plain, Lossy, Leader}
use Rattle.lt_arch.specs.declared.shape.Shape.{Shape}
use Rattle.lt_arch.specs.declared.timing.Timing.{Timing}
use Rattle.lt_answer.specs.Answered.{AndThen}
use Rattle.lt_load.specs.Plan.{Plan}
use Rattle.lt_load.specs.Pacing.{plain_load_verdict}
use Rattle.lt_run.specs.Kinds.{EventsBy, verdict_by}
use Rattle.lt_schedule.specs.Verdict.{verdict}
use Rattle.lt_sim.specs.Drawn.{drawn}
use Rattle.lt_sim.specs.File.{file_text}
use Rattle.lt_sim.specs.Laws.{IsSimShown}
use Rattle.lt_text_answers.specs.Draws.{Drawing, plan_drawn_verdict, sim_verdict}
use Rattle.lt_text_answers.specs.Texts.{drawing_text}
use Rattle.lt_big.proofs.Plainly.{plain_pace}
use Rattle.lt_cli.specs.DrawnShown.{IsDrawnShown}
use Rattle.lt_cli.specs.Objects.{Objects}
use Rattle.lt_cli.specs.Taken.{TookText}
use Rattle.lt_cli.proofs.DrawnRuns.{runs_on, within}

-- the events of a run where no node leads and no link loses messages
plain_reads : (pace : Pace) → pace ≡ Plain → (s : Shape) (t : Timing) (rows : ℕ) (bytes : List ℕ) (es : List Event) → verdict s t rows bytes ≡ Ok es → (events : EventsBy pace) × (verdict_by pace s t rows bytes ≡ Ok events)
plain_reads Plain is s t rows bytes es reads = (es, reads)
plain_reads (Lossy losses) is s t rows bytes es reads = cc
plain_reads (Leader leader) is s t rows bytes es reads = (es, reads)

module _ (named : List ℕ → Option (List ℕ)) (program inputs config : List ℕ) (seed horizon : ℕ) (old new : Objects) (d : Drawing) (text : TookText (drawing_text d) old new) where
  plan_shown : (p : Plan) → plain_load_verdict named program inputs config (Ok p) → plan_drawn_verdict seed horizon p (Ok d) → IsDrawnShown named program inputs config seed horizon old new
  unfolding plan_drawn_verdict
  plan_shown p loaded (l, s, laid, is, shows) =
      let rows : ℕ = length p.inputs.rows in
      let es : List Event = drawn s p.setup.timing rows seed horizon in
      let plain = plain_pace named program inputs config p loaded in
      let here = within _ (length es) (record { shape = s; events = es }) d refl is in
      let shown : IsSimShown s p.setup.timing rows horizon es = subst (λ (e : Drawing). IsSimShown s p.setup.timing rows horizon e.events) here.1 shows in
      let events = plain_reads p.setup.pace plain s p.setup.timing rows (file_text s es) es shown.reads in
      record {
        plan = p;
        loaded = loaded;
        plain = plain;
        layout = l;
        shape = s;
        laid = laid;
        events = es;
        drawn_are = refl;
        few = here.0;
        text = subst (λ (e : Drawing). TookText (drawing_text e) old new) here.1 text;
        shows = shown;
        runs = runs_on p l s laid events.0 (file_text s es) events.1;
      }

  sim_steps : AndThen (plain_load_verdict named program inputs config) (λ plan. plan_drawn_verdict seed horizon plan) (Ok d) → IsDrawnShown named program inputs config seed horizon old new
  sim_steps (inl refused) = absurd refused
  sim_steps (inr (p, loaded, drawn_of)) = plan_shown p loaded drawn_of

  pub drawn_shown : sim_verdict named program inputs config seed horizon (Ok d) → IsDrawnShown named program inputs config seed horizon old new
  unfolding sim_verdict
  drawn_shown right = sim_steps right
