-- The events of a schedule over links that lose messages, as they are shown.
use Rattle.std.specs.Prelude.{ℕ, nat_lt, List, length, Result, Ok, Err, if◌then◌else◌}
use Rattle.lt_arch.specs.declared.shape.Shape.{Shape}
use Rattle.lt_arch.specs.declared.timing.Timing.{Timing}
use Rattle.lt_rows.specs.Limits.{most_events}
use Rattle.lt_lossy.specs.declared.event.LossyEvent.{LossyEvent}
use Rattle.lt_load_fit.specs.declared.fault.CommandFault.{CommandFault}
use Rattle.lt_load_fit.specs.Rows.{too_many_events}
use Rattle.lt_losing.specs.Losing.{lossy_drawn}
use Rattle.lt_losing.specs.LossyFile.{lossy_file_text}
use Rattle.lt_losing.specs.Laws.{IsLossyShown}

-- events over a shape
pub record LossyListing : Type 0 where
  pub shape : Shape
  pub events : List LossyEvent

-- the text of their file
abbrev pub listing_text : LossyListing → List ℕ
listing_text d = lossy_file_text d.shape d.events

-- what the seed draws up to the horizon, unless a schedule of it would have too many events
abbrev pub lossy_listing : Shape → Timing → (limit rows rate seed horizon : ℕ) → Result LossyListing CommandFault
lossy_listing s t limit rows rate seed horizon =
    if nat_lt most_events (length (lossy_drawn s t limit rows rate seed horizon)) then Err too_many_events else Ok (record { shape = s; events = lossy_drawn s t limit rows rate seed horizon })

-- where they are not too many they keep to the bounds, end at the horizon, and their file reads back as they are
abbrev pub ShowsListing : Shape → Timing → (limit rows horizon : ℕ) → Result LossyListing CommandFault → Type 0
ShowsListing s t limit rows horizon (Ok d) = IsLossyShown s t limit rows horizon d.events
ShowsListing s t limit rows horizon (Err e) = Unit {0}
