use Rattle.std.proofs.Common.{◌++◌, ◌∷◌, []}
use Rattle.lt_net_lossy.specs.Rules.{lossy_rules_of}
use Rattle.lt_course.proofs.Recorded.{judged_taken, on_ok}
use Rattle.lt_lossy_course.specs.LossyCourses.{lossy_stopped_at}
use Rattle.lt_lossy_course.proofs.LossyRecorded.{moved, recorded_on}
use Rattle.lt_lossy_course.proofs.recorder.LossyRecorder.take.Goals as goal

pub returns-in-Ok-clause-judges : goal.returns-in-Ok-clause-judges
returns-in-Ok-clause-judges g c before rec =
    let old = c.args.self.now in
    judged_taken (lossy_rules_of old.auditor.shape old.timing old.limit old.auditor.rows) (lossy_stopped_at old.asked old.cross old.auditor.shape old.timing old.auditor.rows) before c.args.e c.note.result c.note.ensures.short (c.in-Ok.ensures.judges old.auditor.shape old.timing old.limit old.auditor.rows before rec.stands)

pub returns-in-Ok-clause-takes : goal.returns-in-Ok-clause-takes
returns-in-Ok-clause-takes g c =
    let old = c.args.self.now in
    let new = c.note.new.self in
    let mid = c.event.new.self in
    on_ok c.note.result (λ noted before rec.
    moved mid new.auditor old.asked new.asked old.cross new.cross old.timing new.timing old.limit new.limit new.tape (before ++ c.args.e ∷ []) c.note.ensures.auditor c.note.ensures.asked c.note.ensures.cross c.note.ensures.timing c.note.ensures.limit
    (recorded_on old.auditor mid old.asked old.cross old.timing old.limit old.tape before c.args.e rec c.requires.event noted.0 c.executed_at-executed.result c.leaving_at-message.result new.tape c.event.ensures.shape
    (c.in-Ok.ensures.takes old.auditor.shape old.timing old.limit old.auditor.rows before rec.stands) (c.in-Ok.ensures.deeds old.auditor.shape old.timing old.limit old.auditor.rows before rec.stands)
    (c.in-Ok.ensures.judges old.auditor.shape old.timing old.limit old.auditor.rows before rec.stands) c.executed_at-executed.ensures c.leaving_at-message.ensures noted.1 noted.2))
    c.note.ensures.tapes
