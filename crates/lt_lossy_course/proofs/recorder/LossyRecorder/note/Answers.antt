use Rattle.std.proofs.Common.{◌≡◌, ◌∙◌, ℕ, ap, subst}
use Rattle.lt_audit.specs.Acts.{next_number}
use Rattle.lt_tape.specs.declared.stroke.Stroke.{Stroke}
use Rattle.lt_tape.specs.Tapes.{tape_count}
use Rattle.lt_course.specs.Recording.{TapesStroke}
use Rattle.lt_lossy_course.specs.LossySketches.{lossy_stroke_by}
use Rattle.lt_lossy_course.proofs.recorder.LossyRecorder.note.Goals as goal

pub returns-in-Ok-clause-tapes : goal.returns-in-Ok-clause-tapes
returns-in-Ok-clause-tapes c =
    let old = c.args.self.now in
    let deed = c.done_at-deed.result in
    let number = c.number_behind-number.ensures ∙ ap (λ (k : ℕ). next_number k) c.count.ensures.value in
    let made : c.lossy_stroke_by-stroke.result ≡ lossy_stroke_by old.cross old.auditor.shape (next_number (tape_count old.tape)) deed c.args.executed c.args.message c.args.e.now =
    c.lossy_stroke_by-stroke.ensures ∙ (λ i. lossy_stroke_by (c.as_slice.ensures i) (c.shape.ensures i) (number i) deed c.args.executed c.args.message c.args.e.now) in
    (deed, c.done_at-deed.ensures, subst (λ (x : Stroke). TapesStroke old.tape c.push.new.self x) made c.in-Ok.ensures)
