-- A recorder over nodes, channels, bounds of time, losses in a row and rows of inputs.
use Rattle.std.proofs.Common.{◌≡◌, ℕ, List, Result, subst}
use Rattle.lt_base.specs.declared.memory.Or.{Or}
use Rattle.lt_io.specs.FilesState.{FilesState}
use Rattle.lt_arch.specs.declared.shape.Shape.{Shape}
use Rattle.lt_arch.specs.declared.timing.Timing.{Timing}
use Rattle.lt_place_reads.specs.declared.crossing.Crossing.{Crossing}
use Rattle.lt_load_fit.specs.declared.fault.CommandFault.{CommandFault}
use Rattle.lt_tape.specs.declared.asked.Asked.{Asked}
use Rattle.lt_course.specs.declared.course.Course.{Course}
use Rattle.lt_course.specs.Reading.{DrawsFile}
use Rattle.lt_lossy_course.specs.declared.recorder.LossyRecorder.{LossyRecorder}
use Rattle.lt_lossy_course.specs.LossyCourses.{lossy_course_verdict, lossy_drawing_rules, lossy_whole_course}
use Rattle.lt_lossy_course.specs.LossyReading.{ReadsLossyCourse}
use Rattle.lt_lossy_course.specs.LossyRecording.{lossy_recorder_rules, lossy_recorder_whole}

pub recorded_over : (asked : Asked) (cross : List Crossing) (s : Shape) (t : Timing) (limit rows : ℕ) (r : LossyRecorder) → r.cross ≡ cross → r.auditor.shape ≡ s → r.timing ≡ t → r.limit ≡ limit → r.auditor.rows ≡ rows → r.asked ≡ asked → (schedule : List ℕ) (a b : FilesState)
    (x : Result Course (Or CommandFault)) → DrawsFile (lossy_recorder_rules r) r.asked (lossy_recorder_whole r) schedule a b x → ReadsLossyCourse asked cross s t limit rows schedule a b x
unfolding lossy_course_verdict
recorded_over asked cross s t limit rows r cross_is shape timing limit_is rows_are asked_is schedule a b x read =
    subst (λ (c : List Crossing). DrawsFile (lossy_drawing_rules asked c s t limit rows) asked (lossy_whole_course c s t rows) schedule a b x) cross_is
    (subst (λ (q : Shape). DrawsFile (lossy_drawing_rules asked r.cross q t limit rows) asked (lossy_whole_course r.cross q t rows) schedule a b x) shape
    (subst (λ (u : Timing). DrawsFile (lossy_drawing_rules asked r.cross r.auditor.shape u limit rows) asked (lossy_whole_course r.cross r.auditor.shape u rows) schedule a b x) timing
    (subst (λ (n : ℕ). DrawsFile (lossy_drawing_rules asked r.cross r.auditor.shape r.timing n rows) asked (lossy_whole_course r.cross r.auditor.shape r.timing rows) schedule a b x) limit_is
    (subst (λ (n : ℕ). DrawsFile (lossy_drawing_rules asked r.cross r.auditor.shape r.timing r.limit n) asked (lossy_whole_course r.cross r.auditor.shape r.timing n) schedule a b x) rows_are
    (subst (λ (d : Asked). DrawsFile (lossy_drawing_rules d r.cross r.auditor.shape r.timing r.limit r.auditor.rows) d (lossy_whole_course r.cross r.auditor.shape r.timing r.auditor.rows) schedule a b x) asked_is read)))))
