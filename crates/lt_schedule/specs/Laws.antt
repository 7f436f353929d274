-- What the verdict on a schedule's rows says of its list of events.
use Rattle.std.specs.Prelude.{◌≡◌, ℕ, List, Ok}
use Rattle.std.specs.List.{All}
use Rattle.lt_arch.specs.declared.event.Event.{Event}
use Rattle.lt_arch.specs.declared.limits.TheConstants.{GREATEST_TIME}
use Rattle.lt_arch.specs.declared.shape.Shape.{Shape}
use Rattle.lt_arch.specs.declared.timing.Timing.{Timing}
use Rattle.lt_arch.specs.Schedule.{first_offence, IsEventOf, AreUpTo}
use Rattle.lt_rows.specs.Rows.{FileRow}
use Rattle.lt_schedule.specs.Verdict.{judged_rows}
use Rattle.lt_schedule.specs.Settled.{ReadAs, settled}

-- rows that read as events within the limits are accepted exactly where their list has no offence, and else refused with the first one
abbrev pub RefusedAtFirstOffence : Type 0
RefusedAtFirstOffence =
    (s : Shape) (t : Timing) (rows end : ℕ) (left : List FileRow) (events : List Event) → ReadAs s end left events → judged_rows s t rows end left ≡ settled events (first_offence s t rows events)

-- rows that are accepted read as the events, within the limits
abbrev pub AcceptedIsRead : Type 0
AcceptedIsRead = (s : Shape) (t : Timing) (rows end : ℕ) (left : List FileRow) (events : List Event) → judged_rows s t rows end left ≡ Ok events → ReadAs s end left events

-- each event of a schedule that is accepted is one of the shape, in the range of times
abbrev pub AcceptedIsOfShape : Type 0
AcceptedIsOfShape =
    (s : Shape) (t : Timing) (rows end : ℕ) (left : List FileRow) (events : List Event) → judged_rows s t rows end left ≡ Ok events → All (IsEventOf s) events × AreUpTo GREATEST_TIME events
