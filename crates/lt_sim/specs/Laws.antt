-- What holds of each drawn list.
use Rattle.std.specs.Prelude.{◌≡◌, ℕ, ◌≤◌, List, length, Ok}
use Rattle.std.specs.List.{All}
use Rattle.lt_arch.specs.declared.event.Event.{Event}
use Rattle.lt_arch.specs.declared.limits.TheConstants.{GREATEST_TIME}
use Rattle.lt_arch.specs.declared.shape.Shape.{Shape}
use Rattle.lt_arch.specs.declared.timing.Timing.{Timing}
use Rattle.lt_arch.specs.Schedule.{IsAdmissible, EndsAt, IsEventOf, OnePlace}
use Rattle.lt_rows.specs.Limits.{most_events}
use Rattle.lt_schedule.specs.Verdict.{verdict}
use Rattle.lt_sim.specs.Drawn.{beginning, events_to, most_to, drawn}
use Rattle.lt_sim.specs.File.{file_text}

-- the bound on the number of events cuts nothing off: with a larger one the list is the same
abbrev pub IsNeverCut : Type 0
IsNeverCut =
    (s : Shape) (t : Timing) (rows seed horizon most : ℕ) → most_to s horizon ≤ most →
    events_to s t rows seed horizon most (beginning s t seed) ≡ drawn s t rows seed horizon

-- these events keep to the bounds and end at this horizon, and each is one of the shape
pub record ScheduleIsSound (s : Shape) (t : Timing) (rows horizon : ℕ) (es : List Event) : Type 0 where
  pub admissible : IsAdmissible s t rows es
  pub ends : EndsAt s t rows es horizon
  pub placed : All (IsEventOf s) es

-- where one place in each channel is enough, each drawn list is so
abbrev pub DrawsSound : Type 0
DrawsSound =
    (s : Shape) (t : Timing) (rows seed horizon : ℕ) → OnePlace s t rows → horizon ≤ GREATEST_TIME → ScheduleIsSound s t rows horizon (drawn s t rows seed horizon)

-- and where it has no more events than a schedule may have, its file reads back to it
abbrev pub ReadsBack : Type 0
ReadsBack =
    (s : Shape) (t : Timing) (rows seed horizon : ℕ) → OnePlace s t rows → horizon ≤ GREATEST_TIME → length (drawn s t rows seed horizon) ≤ most_events →
    verdict s t rows (file_text s (drawn s t rows seed horizon)) ≡ Ok (drawn s t rows seed horizon)

-- what a reader has of a schedule that was drawn and written, for so many rows of inputs and up to a horizon: these events keep to the bounds of the
-- timing, and end at the horizon; and the text of their file, read as a schedule file, is these events, of which none is refused
pub record IsSimShown (s : Shape) (t : Timing) (rows horizon : ℕ) (es : List Event) : Type 0 where
  pub sound : ScheduleIsSound s t rows horizon es
  pub reads : verdict s t rows (file_text s es) ≡ Ok es
