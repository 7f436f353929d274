use Rattle.std.proofs.Common.{◌∙◌, ap, sym}
use Rattle.lt_course.specs.Whole.{WholeCourse}
use Rattle.lt_course.proofs.Recorded.{pending_is}
use Rattle.lt_course.proofs.recorder.RecorderDrawable.channel_count.Goals as goal

pub returns-clause-all : goal.returns-clause-all
returns-clause-all c = λ w drawn.
    let r = c.args.self.now in
    ap (λ (x : WholeCourse). x.pending) drawn.2 ∙ sym (pending_is r.auditor r.asked r.cross r.timing r.tape drawn.0 drawn.1)
