use Rattle.std.proofs.Common.{◌∙◌, Ok, Err}
use Rattle.lt_inspect.specs.Inspected.{IsAudited}
use Rattle.lt_inspect.specs.Inspecting.{IsInspected}
use Rattle.lt_load.proofs.Elsewhere.{near_error}
use Rattle.lt_inspect.proofs.Finished.{audited, near_told, not_ended}
use Rattle.lt_inspect.proofs.Outcome.{over_equals}
use Rattle.lt_inspect.proofs.auditing.audit_by.Goals as goal

pub returns-in_err-inspect-clause-answered : goal.returns-in_err-inspect-clause-answered
returns-in_err-inspect-clause-answered g c = λ k over.
    let i = c.args.inspection.now in
    let j = c.inspect.new.inspection in
    not_ended k j.auditor j.tap.selection j.tap.shape j.text _ _ _ (c.inspect.ensures.shape ∙ over.shape) (c.inspect.ensures.timing ∙ over.timing) (c.inspect.ensures.rows ∙ over.rows) (IsAudited k) _ _ c.from_residual.ensures.1
    (over_equals i.auditor.shape k.shape i.auditor.watch.timing k.timing i.auditor.rows k.rows over.shape over.timing over.rows (λ events done. IsInspected j.auditor j.tap.selection j.tap.shape j.text events) _ _ _ (Err c.in_err-inspect.field-0.0)
    c.in_err-inspect.ensures.answered)

pub tell-requires : goal.tell-requires
tell-requires g c =
    let j = c.inspect.new.inspection in
    let ended = c.in_ok-inspect.ensures.ended in
    (j.auditor.shape, (j.auditor.watch.timing, (j.auditor.rows, (ended.0, ended.1.stands))))

pub returns-in_err-inspect-clause-near : goal.returns-in_err-inspect-clause-near
returns-in_err-inspect-clause-near g c = λ k over told. near_error _ _ _ _ c.from_residual.ensures.1 (c.in_err-inspect.ensures.near told)

pub returns-clause-answered : goal.returns-clause-answered
returns-clause-answered g c = λ k over.
    let i = c.args.inspection.now in
    let j = c.inspect.new.inspection in
    audited k j.auditor j.tap.selection j.tap.shape j.text _ _ _ (c.inspect.ensures.shape ∙ over.shape) (c.inspect.ensures.timing ∙ over.timing) (c.inspect.ensures.rows ∙ over.rows) c.tell.result c.tell.ensures
    (over_equals i.auditor.shape k.shape i.auditor.watch.timing k.timing i.auditor.rows k.rows over.shape over.timing over.rows (λ events done. IsInspected j.auditor j.tap.selection j.tap.shape j.text events) _ _ _ (Ok tt)
    c.in_ok-inspect.ensures.answered)

pub returns-clause-near : goal.returns-clause-near
returns-clause-near g c = λ k over told.
    let i = c.args.inspection.now in
    let j = c.inspect.new.inspection in
    near_told k j.auditor j.tap.selection j.tap.shape j.text _ _ _ (c.inspect.ensures.shape ∙ over.shape) (c.inspect.ensures.timing ∙ over.timing) (c.inspect.ensures.rows ∙ over.rows) c.tell.result _ c.tell.ensures told
    (over_equals i.auditor.shape k.shape i.auditor.watch.timing k.timing i.auditor.rows k.rows over.shape over.timing over.rows (λ events done. IsInspected j.auditor j.tap.selection j.tap.shape j.text events) _ _ _ (Ok tt)
    c.in_ok-inspect.ensures.answered)
