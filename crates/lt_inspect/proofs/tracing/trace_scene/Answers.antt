use Rattle.std.proofs.Common.{◌∙◌, Ok, Err, refl}
use Rattle.lt_answer.proofs.Stages.{runs_short_by}
use Rattle.lt_load.proofs.Elsewhere.{near_error}
use Rattle.lt_inspect.specs.Inspected.{IsTraced}
use Rattle.lt_inspect.specs.Inspecting.{IsInspected}
use Rattle.lt_inspect.proofs.Finished.{traced, not_ended}
use Rattle.lt_inspect.proofs.Outcome.{over_equals}
use Rattle.lt_inspect.proofs.tracing.trace_scene.Goals as goal

pub returns-in-Err-clause-answered : goal.returns-in-Err-clause-answered
returns-in-Err-clause-answered g c =
    let k = c.args.scene in
    let i = c.in_ok-inspection.inspection in
    let j = c.inspect.new.inspection in
    let first = c.in_ok-inspection.ensures in
    not_ended k j.auditor j.tap.selection j.tap.shape j.text _ _ _ (c.inspect.ensures.shape ∙ first.shape) (c.inspect.ensures.timing ∙ first.timing) (c.inspect.ensures.rows ∙ first.rows) (IsTraced c.args.from c.args.to k) _ _ refl
    (over_equals i.auditor.shape k.shape i.auditor.watch.timing k.timing i.auditor.rows k.rows first.shape first.timing first.rows (λ events done. IsInspected j.auditor j.tap.selection j.tap.shape j.text events) _ _ _ (Err c.in-Err.e)
    c.in-Err.ensures.answered)

pub returns-in-Ok-clause-answered : goal.returns-in-Ok-clause-answered
returns-in-Ok-clause-answered g c =
    let k = c.args.scene in
    let i = c.in_ok-inspection.inspection in
    let j = c.inspect.new.inspection in
    let first = c.in_ok-inspection.ensures in
    traced k j.auditor j.tap.selection j.tap.shape j.text _ _ _ (c.inspect.ensures.shape ∙ first.shape) (c.inspect.ensures.timing ∙ first.timing) (c.inspect.ensures.rows ∙ first.rows) c.args.from c.args.to c.into_text.result c.into_text.ensures
    (c.inspect.ensures.selection ∙ first.selection ∙ c.new-tap.ensures.selection ∙ c.selection_of-selection.ensures)
    (over_equals i.auditor.shape k.shape i.auditor.watch.timing k.timing i.auditor.rows k.rows first.shape first.timing first.rows (λ events done. IsInspected j.auditor j.tap.selection j.tap.shape j.text events) _ _ _ (Ok tt)
    c.in-Ok.ensures.answered)

pub returns-in_err-copy-clause-answered : goal.returns-in_err-copy-clause-answered
returns-in_err-copy-clause-answered g c = runs_short_by _ _ c.from_residual.ensures.1

pub returns-in_err-inspection-clause-answered : goal.returns-in_err-inspection-clause-answered
returns-in_err-inspection-clause-answered g c = runs_short_by _ _ c.from_residual-in_err-inspection.ensures.1

pub returns-in_err-copy-clause-near : goal.returns-in_err-copy-clause-near
returns-in_err-copy-clause-near g c = λ told. near_error _ _ _ _ c.from_residual.ensures.1 tt

pub returns-in_err-inspection-clause-near : goal.returns-in_err-inspection-clause-near
returns-in_err-inspection-clause-near g c = λ told. near_error _ _ _ _ c.from_residual-in_err-inspection.ensures.1 tt
