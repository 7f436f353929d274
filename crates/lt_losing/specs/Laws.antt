-- What holds of each list that is drawn where links lose messages.
use Rattle.std.specs.Prelude.{◌≡◌, ℕ, ◌+◌, ◌<◌, ◌≤◌, ◌==◌, ◌≢◌, Bool, true, false, not, List, [], ◌∷◌, ◌++◌, length, Ok, if◌then◌else◌}
use Rattle.std.specs.List.{All, AllPass}
use Rattle.lt_arch.specs.declared.event.Event.TheVariants.{Act, Del, End}
use Rattle.lt_arch.specs.declared.limits.TheConstants.{GREATEST_TIME}
use Rattle.lt_arch.specs.declared.shape.Shape.{Shape}
use Rattle.lt_arch.specs.declared.timing.Timing.{Timing}
use Rattle.lt_arch.specs.Readers.{chan_count}
use Rattle.lt_rows.specs.Limits.{most_events}
use Rattle.lt_schedule.specs.Rules.{file_judged_by}
use Rattle.lt_lossy.specs.declared.event.LossyEvent.{LossyEvent}
use Rattle.lt_lossy.specs.declared.event.LossyEvent.TheVariants.{Plain, Lose}
use Rattle.lt_lossy.specs.Events.{IsLossyEventOf}
use Rattle.lt_lossy.specs.Schedule.{IsLossyAdmissible, LossyEndsAt}
use Rattle.lt_narrow.specs.Narrow.{HasBoundsWithin}
use Rattle.lt_net_lossy.specs.Rules.{lossy_rules_of}
use Rattle.lt_sim.specs.Drawn.{most_to}
use Rattle.lt_losing.specs.Losing.{lossy_beginning, lossy_events_to, lossy_drawn}
use Rattle.lt_losing.specs.LossyFile.{lossy_file_text}

-- the bound on the number of events cuts nothing off: with a larger one the list is the same
abbrev pub LosesAllEvents : Type 0
LosesAllEvents =
    (s : Shape) (t : Timing) (limit rows rate seed horizon most : ℕ) → most_to s horizon ≤ most →
    lossy_events_to s t limit rows rate seed horizon most (lossy_beginning s t seed) ≡ lossy_drawn s t limit rows rate seed horizon

-- these events keep to the bounds, with so many losses allowed in a row, and end at this horizon, and each is one of the shape
pub record LossyScheduleIsSound (s : Shape) (t : Timing) (limit rows horizon : ℕ) (es : List LossyEvent) : Type 0 where
  pub admissible : IsLossyAdmissible s t limit rows es
  pub ends : LossyEndsAt s t rows es horizon
  pub placed : All (IsLossyEventOf s) es

-- each drawn list is so, over any shape and timing
abbrev pub LosesSound : Type 0
LosesSound =
    (s : Shape) (t : Timing) (limit rows rate seed horizon : ℕ) → horizon ≤ GREATEST_TIME → LossyScheduleIsSound s t limit rows horizon (lossy_drawn s t limit rows rate seed horizon)

-- and where it has no more events than a schedule may have, its file reads back to it
abbrev pub LosesReadBack : Type 0
LosesReadBack =
    (s : Shape) (t : Timing) (limit rows rate seed horizon : ℕ) → horizon ≤ GREATEST_TIME → length (lossy_drawn s t limit rows rate seed horizon) ≤ most_events →
    file_judged_by (lossy_rules_of s t limit rows) (lossy_file_text s (lossy_drawn s t limit rows rate seed horizon)) ≡ Ok (lossy_drawn s t limit rows rate seed horizon)

-- Losses.

-- the event loses a message
abbrev pub is_loss : LossyEvent → Bool
is_loss (Plain e) = false
is_loss (Lose c at) = true

-- at rate 0 nothing is lost
abbrev pub LosesNothing : Type 0
LosesNothing = (s : Shape) (t : Timing) (limit rows seed horizon : ℕ) → AllPass (λ e. not (is_loss e)) (lossy_drawn s t limit rows 0 seed horizon)

-- how many messages channel c loses among these events
abbrev pub losses_among : (c : ℕ) → List LossyEvent → ℕ
losses_among c [] = 0
losses_among c (Plain e ∷ es) = losses_among c es
losses_among c (Lose d at ∷ es) = if d == c then losses_among c es + 1 else losses_among c es

-- and it delivers none among them
abbrev pub HasNoLossyDelivery : (c : ℕ) → List LossyEvent → Type 0
HasNoLossyDelivery c [] = Unit {0}
HasNoLossyDelivery c (Plain (Act n at) ∷ es) = HasNoLossyDelivery c es
HasNoLossyDelivery c (Plain (Del d at) ∷ es) = (d ≢ c) × HasNoLossyDelivery c es
HasNoLossyDelivery c (Plain (End at) ∷ es) = HasNoLossyDelivery c es
HasNoLossyDelivery c (Lose d at ∷ es) = HasNoLossyDelivery c es

-- among events that follow one another, of which none is a delivery on channel c, it loses no more messages than this
abbrev pub LosesAtMost : (limit c : ℕ) → List LossyEvent → Type 0
LosesAtMost limit c es = (front between later : List LossyEvent) → es ≡ front ++ (between ++ later) → HasNoLossyDelivery c between → losses_among c between ≤ limit

-- no channel of a drawn list loses more in a row than are allowed
abbrev pub LosesFew : Type 0
LosesFew =
    (s : Shape) (t : Timing) (limit rows rate seed horizon c : ℕ) → horizon ≤ GREATEST_TIME → c < chan_count s → LosesAtMost limit c (lossy_drawn s t limit rows rate seed horizon)

-- Where periods are drawn from a part of their intervals.

-- a list that is admissible within narrower bounds is so within the wider ones
abbrev pub LossyStaysAdmissible : Type 0
LossyStaysAdmissible =
    (s : Shape) (t narrow : Timing) (limit rows : ℕ) (es : List LossyEvent) → HasBoundsWithin t narrow → IsLossyAdmissible s narrow limit rows es → IsLossyAdmissible s t limit rows es

-- what a reader has of a schedule that was drawn and written: these events keep to the bounds, and end at the horizon; and the text of their file, read as
-- a schedule file, is these events, of which none is refused
pub record IsLossyShown (s : Shape) (t : Timing) (limit rows horizon : ℕ) (es : List LossyEvent) : Type 0 where
  pub sound : LossyScheduleIsSound s t limit rows horizon es
  pub reads : file_judged_by (lossy_rules_of s t limit rows) (lossy_file_text s es) ≡ Ok es

-- a list that is drawn within narrower bounds, and is not too long, is shown within the wider ones
abbrev pub LosesShown : Type 0
LosesShown =
    (s : Shape) (t narrow : Timing) (limit rows rate seed horizon : ℕ) → HasBoundsWithin t narrow → horizon ≤ GREATEST_TIME → length (lossy_drawn s narrow limit rows rate seed horizon) ≤ most_events →
    IsLossyShown s t limit rows horizon (lossy_drawn s narrow limit rows rate seed horizon)
