-- A recorder that takes the events of a schedule one after another.
use Rattle.std.specs.Prelude.{◌≡◌, ◌≤◌, ℕ, List, [], ◌∷◌, ◌++◌, Option}
use Rattle.lt_arch.specs.declared.event.Event.{Event}
use Rattle.lt_arch.specs.declared.event.Offence.{Offence}
use Rattle.lt_arch.specs.declared.limits.TheConstants.{GREATEST_TIME}
use Rattle.lt_arch.specs.Schedule.{reached}
use Rattle.lt_arch.specs.Step.{offence_of}
use Rattle.lt_schedule.specs.Rules.{Rules}
use Rattle.lt_tape.specs.declared.asked.Asked.{Asked}
use Rattle.lt_tape.specs.declared.stroke.Stroke.{Stroke}
use Rattle.lt_tape.specs.declared.tape.Tape.{Tape}
use Rattle.lt_tape.specs.Tapes.{IsTapeOf}
use Rattle.lt_tape.specs.Times.{last_time, stroke_time}
use Rattle.lt_course.specs.declared.course.Stopped.{Stopped}
use Rattle.lt_course.specs.declared.recorder.Recorder.{Recorder}
use Rattle.lt_course.specs.Courses.{drawing_rules, whole_course}
use Rattle.lt_course.specs.Recorded.{IsNotedSoFar}
use Rattle.lt_course.specs.Whole.{WholeCourse}

-- it has taken these events
abbrev pub HasRecorded : Recorder → List Event → Type 0
HasRecorded r es = IsNotedSoFar r.auditor r.asked r.cross r.timing r.tape es

-- a tape takes a stroke that comes no earlier than the others
abbrev pub TapesStroke : (old new : Tape) → Stroke → Type 0
TapesStroke old new x = (asked : Asked) (nodes : ℕ) (xs : List Stroke) → IsTapeOf old asked nodes xs → last_time xs ≤ stroke_time x → stroke_time x ≤ GREATEST_TIME → IsTapeOf new asked nodes (xs ++ x ∷ [])

-- how it judges lines and events
abbrev pub recorder_rules : Recorder → Rules Event Stopped
recorder_rules r = drawing_rules r.asked r.cross r.auditor.shape r.timing r.auditor.rows

-- all that events are drawn as
abbrev pub recorder_whole : Recorder → List Event → WholeCourse
recorder_whole r es = whole_course r.cross r.auditor.shape r.timing r.auditor.rows es

-- this is all that the events are drawn as that it has taken
abbrev pub DrawsRecorded : Recorder → WholeCourse → Type 0
DrawsRecorded r w = (es : List Event) × HasRecorded r es × (w ≡ recorder_whole r es)

-- the offence of an event behind these
abbrev pub offence_behind : Recorder → List Event → Event → Option Offence
offence_behind r before e = offence_of r.auditor.shape r.timing (reached r.auditor.shape r.timing r.auditor.rows before) e

-- what no event changes: what is asked, the crossings, the bounds of time, the nodes and channels, and the rows of inputs
abbrev pub KeepsRecorder : (old new : Recorder) → Type 0
KeepsRecorder old new = (new.cross ≡ old.cross) × (new.timing ≡ old.timing) × (new.auditor.shape ≡ old.auditor.shape) × (new.auditor.rows ≡ old.auditor.rows) × (new.asked ≡ old.asked)
