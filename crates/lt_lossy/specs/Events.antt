-- What a line reads as where links lose messages.
use Rattle.std.specs.Prelude.{◌<◌, ◌≤◌, ℕ, List, codes, bytes_eq, Option, Some, None, Result, Ok, Err, if◌then◌else◌}
use Rattle.lt_arch.specs.declared.limits.TheConstants.{GREATEST_TIME}
use Rattle.lt_arch.specs.declared.chan.ChanKind.TheVariants.{Data, Ack}
use Rattle.lt_arch.specs.declared.event.Event.{Event}
use Rattle.lt_arch.specs.declared.shape.Shape.{Shape}
use Rattle.lt_arch.specs.Readers.{chan_count}
use Rattle.lt_arch.specs.Schedule.{IsPlacedIn}
use Rattle.lt_rows.specs.declared.fault.RowFault.{RowFault}
use Rattle.lt_rows.specs.declared.fault.RowFault.TheVariants.{Time, UnknownPlace, NotCsv}
use Rattle.lt_rows.specs.Fields.{Fields, fields_of}
use Rattle.lt_rows.specs.Events.{time_in, chan_named, event_at}
use Rattle.lt_lossy.specs.declared.event.LossyEvent.{LossyEvent}
use Rattle.lt_lossy.specs.declared.event.LossyEvent.TheVariants.{Plain, Lose}
use Rattle.lt_lossy.specs.Times.{lossy_time_of}

abbrev pub loss_event : Option ℕ → (at : ℕ) → Result LossyEvent RowFault
loss_event None at = Err UnknownPlace
loss_event (Some c) at = Ok (Lose c at)

abbrev pub plain_event : Result Event RowFault → Result LossyEvent RowFault
plain_event (Ok e) = Ok (Plain e)
plain_event (Err fault) = Err fault

-- the event at a time of this kind and place: a loss of data or of an acknowledgement, on the channel of these ends, or any event without losses
unfoldable pub lossy_event_at : Shape → (kind place : List ℕ) (at : ℕ) → Result LossyEvent RowFault
lossy_event_at s kind place at =
    if bytes_eq kind (codes "losedata") then loss_event (chan_named s Data place) at else
    (if bytes_eq kind (codes "loseack") then loss_event (chan_named s Ack place) at else plain_event (event_at s kind place at))

abbrev pub timed_lossy_event : Shape → Fields → (time : Option ℕ) → Result LossyEvent RowFault
timed_lossy_event s f None = Err Time
timed_lossy_event s f (Some at) = lossy_event_at s f.kind f.place at

abbrev pub lossy_event_in : Shape → Option Fields → Result LossyEvent RowFault
lossy_event_in s None = Err NotCsv
lossy_event_in s (Some f) = timed_lossy_event s f (time_in f.time)

-- the event of a line, or the first of its faults: in its fields, its time, its kind, its place
unfoldable pub lossy_event_of : Shape → List ℕ → Result LossyEvent RowFault
lossy_event_of s line = lossy_event_in s (fields_of line)

-- the event's node or channel is one of the shape
abbrev pub IsLossyPlacedIn : Shape → LossyEvent → Type 0
IsLossyPlacedIn s (Plain e) = IsPlacedIn s e
IsLossyPlacedIn s (Lose c at) = c < chan_count s

-- and its time is in the range of times
pub record IsLossyEventOf (s : Shape) (e : LossyEvent) : Type 0 where
  pub placed : IsLossyPlacedIn s e
  pub timely : lossy_time_of e ≤ GREATEST_TIME
