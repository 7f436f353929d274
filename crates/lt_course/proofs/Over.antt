-- A recorder over nodes, channels, bounds of time and rows of inputs.
use Rattle.std.proofs.Common.{◌≡◌, ℕ, List, Result, subst}
use Rattle.lt_base.specs.declared.memory.Or.{Or}
use Rattle.lt_io.specs.FilesState.{FilesState}
use Rattle.lt_arch.specs.declared.shape.Shape.{Shape}
use Rattle.lt_arch.specs.declared.timing.Timing.{Timing}
use Rattle.lt_place_reads.specs.declared.crossing.Crossing.{Crossing}
use Rattle.lt_load_fit.specs.declared.fault.CommandFault.{CommandFault}
use Rattle.lt_tape.specs.declared.asked.Asked.{Asked}
use Rattle.lt_course.specs.declared.course.Course.{Course}
use Rattle.lt_course.specs.declared.recorder.Recorder.{Recorder}
use Rattle.lt_course.specs.Courses.{course_verdict, drawing_rules, whole_course}
use Rattle.lt_course.specs.Reading.{DrawsFile, ReadsCourse}
use Rattle.lt_course.specs.Recording.{recorder_rules, recorder_whole}

pub recorded_over : (asked : Asked) (cross : List Crossing) (s : Shape) (t : Timing) (rows : ℕ) (r : Recorder) → r.cross ≡ cross → r.auditor.shape ≡ s → r.timing ≡ t → r.auditor.rows ≡ rows → r.asked ≡ asked → (schedule : List ℕ) (a b : FilesState)
    (x : Result Course (Or CommandFault)) → DrawsFile (recorder_rules r) r.asked (recorder_whole r) schedule a b x → ReadsCourse asked cross s t rows schedule a b x
unfolding course_verdict
recorded_over asked cross s t rows r cross_is shape timing rows_are asked_is schedule a b x read =
    subst (λ (c : List Crossing). DrawsFile (drawing_rules asked c s t rows) asked (whole_course c s t rows) schedule a b x) cross_is
    (subst (λ (q : Shape). DrawsFile (drawing_rules asked r.cross q t rows) asked (whole_course r.cross q t rows) schedule a b x) shape
    (subst (λ (u : Timing). DrawsFile (drawing_rules asked r.cross r.auditor.shape u rows) asked (whole_course r.cross r.auditor.shape u rows) schedule a b x) timing
    (subst (λ (n : ℕ). DrawsFile (drawing_rules asked r.cross r.auditor.shape r.timing n) asked (whole_course r.cross r.auditor.shape r.timing n) schedule a b x) rows_are
    (subst (λ (d : Asked). DrawsFile (drawing_rules d r.cross r.auditor.shape r.timing r.auditor.rows) d (whole_course r.cross r.auditor.shape r.timing r.auditor.rows) schedule a b x) asked_is read))))
