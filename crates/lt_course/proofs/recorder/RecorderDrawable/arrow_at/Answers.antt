use Rattle.std.proofs.Common.{◌∙◌, Some}
use Rattle.lt_audit.specs.Audit.{chan_at}
use Rattle.lt_course.specs.Strokes.{pending_arrow}
use Rattle.lt_course.proofs.Transit.{mapped_at}
use Rattle.lt_course.proofs.recorder.RecorderDrawable.arrow_at.Goals as goal

pub returns : goal.returns
returns c =
    let r = c.args.self.now in
    let made = c.pending_arrow.ensures ∙ (λ i. pending_arrow (c.as_slice-cross.ensures i) r.auditor.shape r.timing c.args.channel (c.sent_at-sent.ensures.value i)) in
    (λ i. Some (made i)) ∙ mapped_at (pending_arrow r.cross r.auditor.shape r.timing c.args.channel) 0 (chan_at r.auditor.chans c.args.channel).transit c.args.place c.requires.place
