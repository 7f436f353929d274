-- What reading a schedule file for a picture answers.
use Rattle.std.specs.Prelude.{ℕ, List, Result}
use Rattle.lt_base.specs.declared.memory.Or.{Or}
use Rattle.lt_io.specs.FilesState.{FilesState}
use Rattle.lt_arch.specs.declared.shape.Shape.{Shape}
use Rattle.lt_arch.specs.declared.timing.Timing.{Timing}
use Rattle.lt_place_reads.specs.declared.crossing.Crossing.{Crossing}
use Rattle.lt_schedule.specs.Errand.{schedule_errand}
use Rattle.lt_schedule.specs.Rules.{Rules}
use Rattle.lt_load_fit.specs.declared.fault.CommandFault.{CommandFault}
use Rattle.lt_load.specs.OnFiles.{OnFiles}
use Rattle.lt_tape.specs.declared.asked.Asked.{Asked}
use Rattle.lt_course.specs.declared.course.Course.{Course}
use Rattle.lt_course.specs.declared.course.Stopped.{Stopped}
use Rattle.lt_course.specs.Courses.{course_verdict}
use Rattle.lt_course.specs.Whole.{WholeCourse, drawn_verdict}

-- what is drawn of the schedule file of this name, where its rows are judged by these rules and this is all that events are drawn as
abbrev pub DrawsFile : {E : Type 0} → Rules E Stopped → Asked → (whole : List E → WholeCourse) → (schedule : List ℕ) → (old new : FilesState) → Result Course (Or CommandFault) → Type 0
DrawsFile rules asked whole schedule old new result = OnFiles (schedule_errand schedule) (drawn_verdict rules asked whole (old.named schedule)) old new result

-- and where these are the nodes and channels, the bounds of time, the variables that cross and the rows of inputs
abbrev pub ReadsCourse : Asked → List Crossing → Shape → Timing → (rows : ℕ) → (schedule : List ℕ) → (old new : FilesState) → Result Course (Or CommandFault) → Type 0
ReadsCourse asked cross s t rows schedule old new result = OnFiles (schedule_errand schedule) (course_verdict asked cross s t rows (old.named schedule)) old new result
