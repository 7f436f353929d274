use Rattle.std.proofs.Common.{◌++◌, ◌∷◌, []}
use Rattle.lt_schedule.specs.Verdict.{rules_of}
use Rattle.lt_course.specs.Courses.{stopped_at}
use Rattle.lt_course.proofs.Recorded.{judged_taken, moved, on_ok, recorded_on}
use Rattle.lt_course.proofs.recorder.Recorder.take.Goals as goal

pub returns-in-Ok-clause-judges : goal.returns-in-Ok-clause-judges
returns-in-Ok-clause-judges g c before rec =
    let old = c.args.self.now in
    judged_taken (rules_of old.auditor.shape old.timing old.auditor.rows) (stopped_at old.asked old.cross old.auditor.shape old.timing old.auditor.rows) before c.args.e c.note.result c.note.ensures.short (c.in-Ok.ensures.judges old.auditor.shape old.timing old.auditor.rows before rec.stands)

pub returns-in-Ok-clause-takes : goal.returns-in-Ok-clause-takes
returns-in-Ok-clause-takes g c =
    let old = c.args.self.now in
    let new = c.note.new.self in
    let mid = c.event.new.self in
    on_ok c.note.result (λ noted before rec.
    moved mid new.auditor old.asked new.asked old.cross new.cross old.timing new.timing new.tape (before ++ c.args.e ∷ []) c.note.ensures.auditor c.note.ensures.asked c.note.ensures.cross c.note.ensures.timing
    (recorded_on old.auditor mid old.asked old.cross old.timing old.tape before c.args.e rec c.requires.event noted.0 c.executed_at-executed.result c.sent_before-sent.result new.tape c.event.ensures.shape
    (c.in-Ok.ensures.takes old.auditor.shape old.timing old.auditor.rows before rec.stands) (c.in-Ok.ensures.deeds old.auditor.shape old.timing old.auditor.rows before rec.stands)
    (c.in-Ok.ensures.judges old.auditor.shape old.timing old.auditor.rows before rec.stands) c.executed_at-executed.ensures c.sent_before-sent.ensures noted.1 noted.2))
    c.note.ensures.tapes
