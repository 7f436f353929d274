-- What a reader has of a drawn list.
use Rattle.std.proofs.Common.{◌≤◌, ℕ, List, length, is_some, sym, ◌∙◌, ap}
use Rattle.lt_arch.specs.declared.limits.TheConstants.{GREATEST_TIME}
use Rattle.lt_arch.specs.declared.shape.Shape.{Shape}
use Rattle.lt_arch.specs.declared.timing.Timing.{Timing}
use Rattle.lt_rows.specs.Limits.{most_events}
use Rattle.lt_lossy.specs.declared.event.LossyEvent.{LossyEvent}
use Rattle.lt_lossy.specs.State.{LossyState}
use Rattle.lt_lossy.proofs.Schedules.{lossy_offence_free}
use Rattle.lt_narrow.specs.Narrow.{HasBoundsWithin}
use Rattle.lt_losing.specs.Losing.{lossy_drawn}
use Rattle.lt_losing.specs.Laws.{LossyScheduleIsSound, IsLossyShown}
use Rattle.lt_losing.proofs.Ending.{lossy_drawn-sound}
use Rattle.lt_losing.proofs.FileRows.{file_judged}
use Rattle.lt_losing.proofs.Wider.{lossy_reached_same, lossy_admissible_within}

-- of a list that is sound and not too long
pub sound_shown : (s : Shape) (t : Timing) (limit rows horizon : ℕ) (es : List LossyEvent) → LossyScheduleIsSound s t limit rows horizon es → length es ≤ most_events → IsLossyShown s t limit rows horizon es
sound_shown s t limit rows horizon es sound few = record {
  sound = sound;
  reads = file_judged s t limit rows es sound.placed few (lossy_offence_free s t limit rows es sound.admissible) (ap is_some sound.ends);
}

sound_within : (s : Shape) (t narrow : Timing) (limit rows horizon : ℕ) (es : List LossyEvent) → HasBoundsWithin t narrow → LossyScheduleIsSound s narrow limit rows horizon es → LossyScheduleIsSound s t limit rows horizon es
sound_within s t narrow limit rows horizon es w sound = record {
  admissible = lossy_admissible_within s t narrow w limit rows es sound.admissible;
  ends = ap (λ (st : LossyState). st.horizon) (sym (lossy_reached_same s t narrow w rows es)) ∙ sound.ends;
  placed = sound.placed;
}

pub shown_within : (s : Shape) (t narrow : Timing) (limit rows rate seed horizon : ℕ) → HasBoundsWithin t narrow → horizon ≤ GREATEST_TIME → length (lossy_drawn s narrow limit rows rate seed horizon) ≤ most_events
    → IsLossyShown s t limit rows horizon (lossy_drawn s narrow limit rows rate seed horizon)
shown_within s t narrow limit rows rate seed horizon w near few =
    sound_shown s t limit rows horizon (lossy_drawn s narrow limit rows rate seed horizon)
    (sound_within s t narrow limit rows horizon (lossy_drawn s narrow limit rows rate seed horizon) w (lossy_drawn-sound s narrow limit rows rate seed horizon near)) few
