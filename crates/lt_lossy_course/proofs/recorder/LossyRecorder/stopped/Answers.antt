use Rattle.std.proofs.Common.{◌∙◌, refl, sym, subst}
use Rattle.lt_arch.specs.declared.shape.Shape.{Shape}
use Rattle.lt_arch.specs.Readers.{node_count}
use Rattle.lt_lossy.specs.Schedule.{lossy_reached}
use Rattle.lt_lossy_course.specs.LossyCourses.{lossy_refused_at, lossy_refused_by}
use Rattle.lt_lossy_course.specs.LossyLasts.{IsLossyPlacedOffence, lossy_oldest_read}
use Rattle.lt_lossy_course.specs.LossyRecording.{DrawsLossyRecorded, HasLossyRecorded, lossy_recorder_whole}
use Rattle.lt_lossy_course.specs.LossyStrokes.{lossy_strokes_of}
use Rattle.lt_lossy_course.proofs.LossyPlacing.{lossy_placed}
use Rattle.lt_course.proofs.Stopping.{stopped_if}
use Rattle.lt_lossy_course.proofs.LossyRecorded.{refused_is}
use Rattle.lt_lossy_course.proofs.recorder.LossyRecorder.stopped.Goals as goal

pub oldest_read-oldest-requires : goal.oldest_read-oldest-requires
oldest_read-oldest-requires c =
    let r = c.args.self.now in
    let at = c.requires.stands in
    lossy_placed r.auditor.shape r.timing r.limit (lossy_reached r.auditor.shape r.timing r.auditor.rows at.0) c.args.e.now c.args.offence c.requires.event.placed (c.requires.offence at.0 at.1)

pub mark_for-last-requires : goal.mark_for-last-requires
mark_for-last-requires c =
    let r = c.args.self.now in
    let at = c.requires.stands in
    (r.asked, node_count r.auditor.shape, lossy_strokes_of r.cross r.auditor.shape r.timing r.auditor.rows at.0, at.1.taped)

pub refused_by-requires-clause-placed : goal.refused_by-requires-clause-placed
refused_by-requires-clause-placed c =
    let r = c.args.self.now in
    let at = c.requires.stands in
    subst (λ (q : Shape). IsLossyPlacedOffence q c.args.offence) (sym c.shape-shape.ensures)
    (lossy_placed r.auditor.shape r.timing r.limit (lossy_reached r.auditor.shape r.timing r.auditor.rows at.0) c.args.e.now c.args.offence c.requires.event.placed (c.requires.offence at.0 at.1))

pub stopped_before-requires : goal.stopped_before-requires
stopped_before-requires c = let at = c.requires.stands in (lossy_recorder_whole c.args.self.now at.0, (at.0, at.1, refl))

pub returns : goal.returns
returns c =
    let r = c.args.self.now in
    let e = c.args.e.now in
    let o = c.args.offence in
    let made = c.in_ok-refused.ensures ∙ (λ i. lossy_refused_by (c.shape-shape.ensures i) r.timing c.mark_for-last.result (c.oldest_read-oldest.ensures.value i) e o) in
    stopped_if r.asked (DrawsLossyRecorded r) (HasLossyRecorded r) (lossy_recorder_whole r) (λ es. lossy_refused_at r.auditor.shape r.timing (lossy_reached r.auditor.shape r.timing r.auditor.rows es) e o) c.in_ok-refused.refused c.stopped_before.result (λ es rec. (es, rec, refl))
    (λ es rec.
    let last = c.mark_for-last.ensures.value r.asked (node_count r.auditor.shape) (lossy_strokes_of r.cross r.auditor.shape r.timing r.auditor.rows es) rec.taped in
    refused_is r.auditor r.asked r.cross r.timing r.limit r.tape es rec e o c.in_ok-refused.refused (lossy_placed r.auditor.shape r.timing r.limit (lossy_reached r.auditor.shape r.timing r.auditor.rows es) e o c.requires.event.placed (c.requires.offence es rec))
    (made ∙ (λ i. lossy_refused_by r.auditor.shape r.timing (last i) (lossy_oldest_read r.auditor o) e o)))
    c.stopped_before.ensures
