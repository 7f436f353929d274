-- A schedule whose rows all read as events.
use Rattle.std.specs.Prelude.{◌≡◌, ◌≤◌, ℕ, List, ◌∷◌, length, map, Option, Some, None, Result, Ok, Err}
use Rattle.std.specs.List.{All}
use Rattle.lt_arch.specs.declared.event.Event.{Event}
use Rattle.lt_arch.specs.declared.event.Offence as arch
use Rattle.lt_arch.specs.declared.shape.Shape.{Shape}
use Rattle.lt_rows.specs.declared.fault.RowFault.{RowFault}
use Rattle.lt_rows.specs.Limits.{most_bytes, most_events}
use Rattle.lt_rows.specs.Rows.{FileRow}
use Rattle.lt_rows.specs.Events.{header_fault, event_of}
use Rattle.lt_schedule.specs.declared.fault.ScheduleFault.{ScheduleFault}
use Rattle.lt_schedule.specs.declared.fault.ScheduleFault.TheVariants.{Offence}

-- the row ends within the limit on bytes
abbrev pub RowIsWithin : FileRow → Type 0
RowIsWithin row = row.ends ≤ most_bytes

-- what its line reads as
abbrev pub event_in_row : Shape → FileRow → Result Event RowFault
event_in_row s row = event_of s row.line

-- an event that is read
abbrev pub read_event : Event → Result Event RowFault
read_event e = Ok e

-- the rows are a header and, behind it, one for each of these events, and all are within the limits
pub record ReadAs (s : Shape) (end : ℕ) (left : List FileRow) (events : List Event) : Type 0 where
  pub header : FileRow
  pub later : List FileRow
  pub left_is : left ≡ header ∷ later
  pub header_reads : header_fault header.line ≡ None
  pub events_read : map (event_in_row s) later ≡ map read_event events
  pub few : length later ≤ most_events
  pub rows_within : All RowIsWithin left
  pub end_within : end ≤ most_bytes

-- all events where none has an offence, or else the first offence
abbrev pub settled : List Event → Option (ℕ × arch.Offence) → Result (List Event) ScheduleFault
settled events None = Ok events
settled events (Some found) = Err (Offence found.0 found.1)
