-- What reading a schedule file for a picture answers, where links lose messages.
use Rattle.std.specs.Prelude.{ℕ, List, Result}
use Rattle.lt_base.specs.declared.memory.Or.{Or}
use Rattle.lt_io.specs.FilesState.{FilesState}
use Rattle.lt_arch.specs.declared.shape.Shape.{Shape}
use Rattle.lt_arch.specs.declared.timing.Timing.{Timing}
use Rattle.lt_place_reads.specs.declared.crossing.Crossing.{Crossing}
use Rattle.lt_schedule.specs.Errand.{schedule_errand}
use Rattle.lt_load_fit.specs.declared.fault.CommandFault.{CommandFault}
use Rattle.lt_load.specs.OnFiles.{OnFiles}
use Rattle.lt_tape.specs.declared.asked.Asked.{Asked}
use Rattle.lt_course.specs.declared.course.Course.{Course}
use Rattle.lt_lossy_course.specs.LossyCourses.{lossy_course_verdict}

-- what is drawn of the schedule file of this name
abbrev pub ReadsLossyCourse : Asked → List Crossing → Shape → Timing → (limit rows : ℕ) → (schedule : List ℕ) → (old new : FilesState) → Result Course (Or CommandFault) → Type 0
ReadsLossyCourse asked cross s t limit rows schedule old new result = OnFiles (schedule_errand schedule) (lossy_course_verdict asked cross s t limit rows (old.named schedule)) old new result
