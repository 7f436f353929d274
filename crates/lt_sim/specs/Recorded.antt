-- What a call that records a list of events answers, and what its sink has taken.
use Rattle.std.specs.Prelude.{◌≡◌, ◌<◌, ◌≤◌, ℕ, IsTrue, List, ◌++◌, length, Bool, true, false, Result, Ok, Err}
use Rattle.lt_base.specs.declared.memory.Or.{Or}
use Rattle.lt_base.specs.declared.memory.Or.TheVariants.{Fault, Memory}
use Rattle.lt_io.specs.SinkState.{SinkState}
use Rattle.lt_io.specs.Transfer.{IsFront}
use Rattle.lt_arch.specs.declared.event.Event.{Event}
use Rattle.lt_arch.specs.declared.shape.Shape.{Shape}
use Rattle.lt_rows.specs.Limits.{most_events}
use Rattle.lt_sim.specs.declared.fault.SimFault.{SimFault}
use Rattle.lt_sim.specs.declared.fault.SimFault.TheVariants.{Write, TooMany}
use Rattle.lt_sim.specs.File.{file_text, schedule_text}

-- the sink did not fail, and where it tells its bytes, it took this text
pub record WritesWhole (text : List ℕ) (old new : SinkState) : Type 0 where
  pub counted : new.faults ≡ old.faults
  pub taken : IsTrue old.told → new.taken ≡ old.taken ++ text

-- the sink did not fail, and took a front of this text
pub record WritesFrontOf (text : List ℕ) (old new : SinkState) : Type 0 where
  pub counted : new.faults ≡ old.faults
  pub taken : IsTrue old.told → IsFront old.taken text new.taken

-- the sink failed, and took a front of this text
pub record FailsAfter (text : List ℕ) (old new : SinkState) : Type 0 where
  pub counted : old.faults < new.faults
  pub taken : IsTrue old.told → IsFront old.taken text new.taken

-- the number of events, with the whole file written
pub record IsRecorded (s : Shape) (es : List Event) (old new : SinkState) (count : ℕ) : Type 0 where
  pub count_is : count ≡ length es
  pub few : length es ≤ most_events
  pub written : WritesWhole (file_text s es) old new

-- the sink failed in the middle of the file
pub record IsBroken (s : Shape) (es : List Event) (old new : SinkState) : Type 0 where
  pub few : length es ≤ most_events
  pub written : FailsAfter (file_text s es) old new

-- there are more events than a schedule may have, and nothing was written
pub record AreTooManyEvents (es : List Event) (old new : SinkState) : Type 0 where
  pub many : most_events < length es
  pub unchanged : new ≡ old

-- what is right of a list of events; for want of memory it is written in part, where it may be written
abbrev pub Records : Shape → List Event → (old new : SinkState) → Result ℕ (Or SimFault) → Type 0
Records s es old new (Ok count) = IsRecorded s es old new count
Records s es old new (Err (Fault Write)) = IsBroken s es old new
Records s es old new (Err (Fault TooMany)) = AreTooManyEvents es old new
Records s es old new (Err Memory) = WritesFrontOf (schedule_text s es) old new

-- How a text reaches the sink, page by page.

-- the text was written, or a front of it
abbrev pub WritesText : {T : Type 0} → (text : List ℕ) → (old new : SinkState) → Result T (Or SimFault) → Type 0
WritesText text old new (Ok _) = WritesWhole text old new
WritesText text old new (Err (Fault Write)) = FailsAfter text old new
WritesText text old new (Err (Fault TooMany)) = ⊥
WritesText text old new (Err Memory) = WritesFrontOf text old new

-- the sink did not fail, and it took some of what was kept with this text behind it; the rest is held now
pub record TakesPart (text kept held : List ℕ) (old new : SinkState) : Type 0 where
  pub counted : new.faults ≡ old.faults
  pub written : List ℕ
  pub taken : IsTrue old.told → new.taken ≡ old.taken ++ written
  pub behind : written ++ held ≡ kept ++ text

-- the text was put behind what was kept, and some of it may have been written, or a front of both was written
abbrev pub WritesPart : (text kept held : List ℕ) → (old new : SinkState) → Result (Unit {0}) (Or SimFault) → Type 0
WritesPart text kept held old new (Ok _) = TakesPart text kept held old new
WritesPart text kept held old new (Err (Fault Write)) = FailsAfter (kept ++ text) old new
WritesPart text kept held old new (Err (Fault TooMany)) = ⊥
WritesPart text kept held old new (Err Memory) = WritesFrontOf (kept ++ text) old new

-- whether a number of events is within the limit
abbrev pub IsWithinMost : (number : ℕ) → Bool → Type 0
IsWithinMost number true = number ≤ most_events
IsWithinMost number false = most_events < number
