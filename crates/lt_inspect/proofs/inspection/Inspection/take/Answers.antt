use Rattle.std.proofs.Common.{◌++◌, ◌∷◌, [], sym, subst}
use Rattle.lt_arch.specs.declared.shape.Shape.{Shape}
use Rattle.lt_audit.specs.declared.selection.Selection.{Selection}
use Rattle.lt_audit.specs.Audit.{AuditState}
use Rattle.lt_audit.specs.Standing.{AuditStands}
use Rattle.lt_inspect.specs.Inspecting.{IsInspected}
use Rattle.lt_inspect.proofs.Noting.{inspected_on}
use Rattle.lt_inspect.proofs.inspection.Inspection.take.Goals as goal

pub returns-in-Ok-clause-takes : goal.returns-in-Ok-clause-takes
returns-in-Ok-clause-takes g c before ins =
    let old = c.args.self.now in
    let new = c.note.new.self in
    let stands = subst (λ (b : AuditState). AuditStands b old.auditor.shape old.auditor.watch.timing old.auditor.rows (before ++ c.args.e ∷ [])) (sym c.note.ensures.auditor)
    (c.in_ok-event.ensures.takes old.auditor.shape old.auditor.watch.timing old.auditor.rows before ins.stands) in
    subst (λ (k : Selection). IsInspected new.auditor k new.tap.shape new.text (before ++ c.args.e ∷ [])) (sym c.note.ensures.selection)
    (subst (λ (q : Shape). IsInspected new.auditor old.tap.selection q new.text (before ++ c.args.e ∷ [])) (sym c.note.ensures.tapped)
    (inspected_on old.auditor new.auditor old.tap.selection old.tap.shape old.text new.text before c.args.e ins stands c.in-Ok.ensures.text))
