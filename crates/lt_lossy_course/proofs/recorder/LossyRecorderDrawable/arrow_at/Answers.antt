use Rattle.std.proofs.Common.{◌∙◌, Some}
use Rattle.lt_lossy_audit.specs.Links.{link_seen}
use Rattle.lt_course.proofs.Transit.{mapped_at}
use Rattle.lt_lossy_course.specs.LossyStrokes.{pending_message}
use Rattle.lt_lossy_course.proofs.recorder.LossyRecorderDrawable.arrow_at.Goals as goal

pub returns : goal.returns
returns c =
    let r = c.args.self.now in
    let link = link_seen r.auditor.links c.args.channel in
    let made = c.pending_arrow.ensures ∙ (λ i. pending_message (c.as_slice-cross.ensures i) r.auditor.shape r.timing c.args.channel (c.placed_message-message.ensures.newest i) (c.placed_message-message.ensures.message i)) in
    (λ i. Some (made i)) ∙ mapped_at (pending_message r.cross r.auditor.shape r.timing c.args.channel link.newest) (record { number = 0; sent_at = 0 }) link.transit c.args.place c.requires.place
