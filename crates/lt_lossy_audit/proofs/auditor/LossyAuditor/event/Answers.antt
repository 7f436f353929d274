use Rattle.std.proofs.Common.{◌≡◌, ◌∙◌, None, sym, subst}
use Rattle.lt_lossy.specs.Events.{IsLossyPlacedIn}
use Rattle.lt_lossy.specs.Schedule.{lossy_reached}
use Rattle.lt_lossy.specs.Step.{lossy_offence}
use Rattle.lt_lossy_audit.specs.LossyAudit.{LossyAuditStands, LossyAuditState}
use Rattle.lt_lossy_audit.proofs.LossyOn.{deed_known, stands_on}
use Rattle.lt_lossy_audit.proofs.auditor.LossyAuditor.event.Goals as goal

pub returns-clause-takes : goal.returns-clause-takes
returns-clause-takes g c = λ s t limit rows es stands.
    let a = c.self.inside.audit in
    let here = subst (λ (k : LossyAuditState). LossyAuditStands k s t limit rows es) (sym c.self.view_is) stands in
    let placed = subst (λ (k : LossyAuditState). IsLossyPlacedIn k.shape c.args.e) (sym c.self.view_is) c.requires.placed in
    let none : lossy_offence s t limit (lossy_reached s t rows es) c.args.e ≡ None = sym (c.judge.ensures.offence s t limit (lossy_reached s t rows es) here.state.times) ∙ c.in_default.is in
    stands_on a c.take.new.self c.args.e c.self.invariant.nodes c.self.invariant.links placed c.take.ensures.takes s t limit rows es here none

pub returns-clause-deeds : goal.returns-clause-deeds
returns-clause-deeds g c = λ s t limit rows es stands.
    let a = c.self.inside.audit in
    let here = subst (λ (k : LossyAuditState). LossyAuditStands k s t limit rows es) (sym c.self.view_is) stands in
    let placed = subst (λ (k : LossyAuditState). IsLossyPlacedIn k.shape c.args.e) (sym c.self.view_is) c.requires.placed in
    deed_known a c.take.new.self c.args.e c.self.invariant.nodes c.self.invariant.links placed c.take.ensures.takes s t limit rows es here
