-- What a schedule file reads as: its events, or the first row or event that is refused.
use Rattle.std.specs.Prelude.{ℕ, is_some, List, length, Option, Some, None, Result, Ok, Err, if◌then◌else◌}
use Rattle.lt_arch.specs.declared.event.Event.{Event}
use Rattle.lt_arch.specs.declared.event.Offence as arch
use Rattle.lt_arch.specs.declared.event.Offence.TheVariants.{NoEnd}
use Rattle.lt_arch.specs.declared.shape.Shape.{Shape}
use Rattle.lt_arch.specs.declared.timing.Timing.{Timing}
use Rattle.lt_arch.specs.State.{State}
use Rattle.lt_arch.specs.Step.{offence_of}
use Rattle.lt_arch.specs.Schedule.{reached}
use Rattle.lt_rows.specs.Rows.{FileRow, rows_of}
use Rattle.lt_rows.specs.Events.{event_of}
use Rattle.lt_schedule.specs.declared.halt.ScheduleRefusal.{ScheduleRefusal}
use Rattle.lt_schedule.specs.declared.halt.ScheduleRefusal.TheVariants as refusal
use Rattle.lt_schedule.specs.declared.fault.ScheduleFault.{ScheduleFault}
use Rattle.lt_schedule.specs.declared.fault.ScheduleFault.TheVariants.{Row, Offence, Bytes}
use Rattle.lt_schedule.specs.Rules.{Rules, judged_by}

-- the offence of a list that stops in this state
abbrev pub unended : State → Option arch.Offence
unended st = if is_some st.horizon then None else Some NoEnd

-- the rules of the architecture over a shape and a timing, with so many rows of inputs
abbrev pub rules_of : Shape → Timing → (rows : ℕ) → Rules Event arch.Offence
rules_of s t rows = record {
  reads = event_of s;
  offence = λ before e. offence_of s t (reached s t rows before) e;
  missing = λ before. unended (reached s t rows before);
}

-- a refusal as a fault of the schedule
abbrev pub schedule_fault_of : ScheduleRefusal arch.Offence → ScheduleFault
schedule_fault_of (refusal.Row row fault) = Row row fault
schedule_fault_of (refusal.Offence event offence) = Offence event offence
schedule_fault_of refusal.Bytes = Bytes

abbrev pub or_fault : Result (List Event) (ScheduleRefusal arch.Offence) → Result (List Event) ScheduleFault
or_fault (Ok events) = Ok events
or_fault (Err refused) = Err (schedule_fault_of refused)

-- the verdict on rows, of which the first is the header
abbrev pub judged_rows : Shape → Timing → (rows end : ℕ) → List FileRow → Result (List Event) ScheduleFault
judged_rows s t rows end left = or_fault (judged_by (rules_of s t rows) end left)

-- the verdict on a schedule file, with so many rows of inputs
abbrev pub verdict : Shape → Timing → (rows : ℕ) → (bytes : List ℕ) → Result (List Event) ScheduleFault
verdict s t rows bytes = judged_rows s t rows (length bytes) (rows_of bytes)
