use Rattle.std.proofs.Common.{◌∙◌, refl, sym, subst}
use Rattle.lt_arch.specs.declared.shape.Shape.{Shape}
use Rattle.lt_arch.specs.Readers.{node_count}
use Rattle.lt_arch.specs.Schedule.{reached}
use Rattle.lt_course.specs.Courses.{refused_at, refused_by}
use Rattle.lt_course.specs.Lasts.{oldest_read}
use Rattle.lt_course.specs.Placed.{IsPlacedOffence}
use Rattle.lt_course.specs.Recording.{DrawsRecorded, HasRecorded, recorder_whole}
use Rattle.lt_course.specs.Strokes.{strokes_of}
use Rattle.lt_course.proofs.Placing.{offence_placed}
use Rattle.lt_course.proofs.Recorded.{refused_is}
use Rattle.lt_course.proofs.Stopping.{stopped_if}
use Rattle.lt_course.proofs.recorder.Recorder.stopped.Goals as goal

pub oldest_read-oldest-requires : goal.oldest_read-oldest-requires
oldest_read-oldest-requires c =
    let r = c.args.self.now in
    let at = c.requires.stands in
    offence_placed r.auditor.shape r.timing (reached r.auditor.shape r.timing r.auditor.rows at.0) c.args.e.now c.args.offence c.requires.event.placed (c.requires.offence at.0 at.1)

pub last_mark_for-last-requires : goal.last_mark_for-last-requires
last_mark_for-last-requires c =
    let r = c.args.self.now in
    let at = c.requires.stands in
    (r.asked, node_count r.auditor.shape, strokes_of r.cross r.auditor.shape r.timing r.auditor.rows at.0, at.1.taped)

pub refused_by-requires-clause-placed : goal.refused_by-requires-clause-placed
refused_by-requires-clause-placed c =
    let r = c.args.self.now in
    let at = c.requires.stands in
    subst (λ (q : Shape). IsPlacedOffence q c.args.offence) (sym c.shape-shape.ensures)
    (offence_placed r.auditor.shape r.timing (reached r.auditor.shape r.timing r.auditor.rows at.0) c.args.e.now c.args.offence c.requires.event.placed (c.requires.offence at.0 at.1))

pub stopped_before-requires : goal.stopped_before-requires
stopped_before-requires c = let at = c.requires.stands in (recorder_whole c.args.self.now at.0, (at.0, at.1, refl))

pub returns : goal.returns
returns c =
    let r = c.args.self.now in
    let e = c.args.e.now in
    let o = c.args.offence in
    let made = c.in_ok-refused.ensures ∙ (λ i. refused_by (c.shape-shape.ensures i) r.timing c.last_mark_for-last.result (c.oldest_read-oldest.ensures.value i) e o) in
    stopped_if r.asked (DrawsRecorded r) (HasRecorded r) (recorder_whole r) (λ es. refused_at r.auditor.shape r.timing (reached r.auditor.shape r.timing r.auditor.rows es) e o) c.in_ok-refused.refused c.stopped_before.result (λ es rec. (es, rec, refl))
    (λ es rec.
    let last = c.last_mark_for-last.ensures.value r.asked (node_count r.auditor.shape) (strokes_of r.cross r.auditor.shape r.timing r.auditor.rows es) rec.taped in
    refused_is r.auditor r.asked r.cross r.timing r.tape es rec e o c.in_ok-refused.refused (offence_placed r.auditor.shape r.timing (reached r.auditor.shape r.timing r.auditor.rows es) e o c.requires.event.placed (c.requires.offence es rec))
    (made ∙ (λ i. refused_by r.auditor.shape r.timing (last i) (oldest_read r.auditor o) e o)))
    c.stopped_before.ensures
