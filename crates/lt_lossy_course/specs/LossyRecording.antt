-- A recorder that takes the events of a schedule over links that lose messages one after another.
use Rattle.std.specs.Prelude.{◌≡◌, List, Option}
use Rattle.lt_lossy.specs.declared.event.LossyEvent.{LossyEvent}
use Rattle.lt_lossy.specs.declared.event.LossyOffence.{LossyOffence}
use Rattle.lt_lossy.specs.Schedule.{lossy_reached}
use Rattle.lt_lossy.specs.Step.{lossy_offence}
use Rattle.lt_schedule.specs.Rules.{Rules}
use Rattle.lt_course.specs.declared.course.Stopped.{Stopped}
use Rattle.lt_lossy_course.specs.declared.recorder.LossyRecorder.{LossyRecorder}
use Rattle.lt_course.specs.Whole.{WholeCourse}
use Rattle.lt_lossy_course.specs.LossyCourses.{lossy_drawing_rules, lossy_whole_course}
use Rattle.lt_lossy_course.specs.LossyNoted.{IsLossyNotedSoFar}

-- it has taken these events
abbrev pub HasLossyRecorded : LossyRecorder → List LossyEvent → Type 0
HasLossyRecorded r es = IsLossyNotedSoFar r.auditor r.asked r.cross r.timing r.limit r.tape es

-- how it judges lines and events
abbrev pub lossy_recorder_rules : LossyRecorder → Rules LossyEvent Stopped
lossy_recorder_rules r = lossy_drawing_rules r.asked r.cross r.auditor.shape r.timing r.limit r.auditor.rows

-- all that events are drawn as
abbrev pub lossy_recorder_whole : LossyRecorder → List LossyEvent → WholeCourse
lossy_recorder_whole r es = lossy_whole_course r.cross r.auditor.shape r.timing r.auditor.rows es

-- this is all that the events are drawn as that it has taken
abbrev pub DrawsLossyRecorded : LossyRecorder → WholeCourse → Type 0
DrawsLossyRecorded r w = (es : List LossyEvent) × HasLossyRecorded r es × (w ≡ lossy_recorder_whole r es)

-- the offence of an event behind these
abbrev pub lossy_offence_behind : LossyRecorder → List LossyEvent → LossyEvent → Option LossyOffence
lossy_offence_behind r before e = lossy_offence r.auditor.shape r.timing r.limit (lossy_reached r.auditor.shape r.timing r.auditor.rows before) e

-- what no event changes: what is asked, the crossings, the bounds of time, the losses that are allowed, the nodes and channels, and the rows of inputs
abbrev pub KeepsLossyRecorder : (old new : LossyRecorder) → Type 0
KeepsLossyRecorder old new = (new.cross ≡ old.cross) × (new.timing ≡ old.timing) × (new.limit ≡ old.limit) × (new.auditor.shape ≡ old.auditor.shape) × (new.auditor.rows ≡ old.auditor.rows) × (new.asked ≡ old.asked)
