-- What a call that records a list of events answers, where links lose messages.
use Rattle.std.specs.Prelude.{◌≡◌, ◌<◌, ◌≤◌, ℕ, List, length, nat_lt, Bool, true, false, [], Result, Ok, Err, if◌then◌else◌}
use Rattle.lt_base.specs.declared.memory.Or.{Or}
use Rattle.lt_base.specs.declared.memory.Or.TheVariants.{Fault, Memory}
use Rattle.lt_io.specs.SinkState.{SinkState}
use Rattle.lt_arch.specs.declared.shape.Shape.{Shape}
use Rattle.lt_arch.specs.declared.timing.Timing.{Timing}
use Rattle.lt_rows.specs.Limits.{most_events}
use Rattle.lt_lossy.specs.declared.event.LossyEvent.{LossyEvent}
use Rattle.lt_sim.specs.declared.fault.SimFault.{SimFault}
use Rattle.lt_sim.specs.declared.fault.SimFault.TheVariants.{Write, TooMany}
use Rattle.lt_sim.specs.Recorded.{WritesWhole, WritesFrontOf, FailsAfter}
use Rattle.lt_losing.specs.Losing.{lossy_beginning}
use Rattle.lt_losing.specs.LossyFile.{lossy_file_text}
use Rattle.lt_losing.specs.Held.{LossyDrawingStands}
use Rattle.lt_losing.specs.declared.drawing.LossyDrawing.{LossyDrawing}

-- the number of events, with the whole file written
pub record IsLossyRecorded (s : Shape) (es : List LossyEvent) (old new : SinkState) (count : ℕ) : Type 0 where
  pub count_is : count ≡ length es
  pub few : length es ≤ most_events
  pub written : WritesWhole (lossy_file_text s es) old new

-- the sink failed in the middle of the file
pub record IsLossyBroken (s : Shape) (es : List LossyEvent) (old new : SinkState) : Type 0 where
  pub few : length es ≤ most_events
  pub written : FailsAfter (lossy_file_text s es) old new

-- there are more events than a schedule may have, and nothing was written
pub record AreTooManyLossyEvents (es : List LossyEvent) (old new : SinkState) : Type 0 where
  pub many : most_events < length es
  pub unchanged : new ≡ old

-- what is written of a list: its file, or nothing where it has more events than a schedule may have
abbrev pub lossy_schedule_text : Shape → List LossyEvent → List ℕ
lossy_schedule_text s es = if nat_lt most_events (length es) then [] else lossy_file_text s es

-- what is right of a list of events; for want of memory it is written in part, where it may be written
abbrev pub LossyRecords : Shape → List LossyEvent → (old new : SinkState) → Result ℕ (Or SimFault) → Type 0
LossyRecords s es old new (Ok count) = IsLossyRecorded s es old new count
LossyRecords s es old new (Err (Fault Write)) = IsLossyBroken s es old new
LossyRecords s es old new (Err (Fault TooMany)) = AreTooManyLossyEvents es old new
LossyRecords s es old new (Err Memory) = WritesFrontOf (lossy_schedule_text s es) old new

-- these are all events of a list, or it has more than a schedule may have
abbrev pub IsHeldWhole : (es held : List LossyEvent) → (ended : Bool) → Type 0
IsHeldWhole es held true = (held ≡ es) × (length es ≤ most_events)
IsHeldWhole es held false = most_events < length es

-- it stands for a list of which nothing is drawn but the first activations
abbrev pub LossyDrawingStarts : LossyDrawing → Shape → Timing → (seed : ℕ) → Type 0
LossyDrawingStarts k s t seed = LossyDrawingStands k s t seed (lossy_beginning s t seed)
