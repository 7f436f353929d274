use Rattle.lt_answer.proofs.Stages.{runs_short_by}
use Rattle.lt_load.proofs.Elsewhere.{near_error}
use Rattle.lt_inspect.proofs.auditing.audit_scene.Goals as goal

pub returns-clause-answered : goal.returns-clause-answered
returns-clause-answered g c =
    let first = c.in_ok-inspection.ensures in
    c.audit_by-audited.ensures.answered c.args.scene (record { shape = first.shape; timing = first.timing; rows = first.rows })

pub returns-clause-near : goal.returns-clause-near
returns-clause-near g c =
    let first = c.in_ok-inspection.ensures in
    c.audit_by-audited.ensures.near c.args.scene (record { shape = first.shape; timing = first.timing; rows = first.rows })

pub returns-in_err-copy-clause-answered : goal.returns-in_err-copy-clause-answered
returns-in_err-copy-clause-answered g c = runs_short_by _ _ c.from_residual.ensures.1

pub returns-in_err-copy-clause-near : goal.returns-in_err-copy-clause-near
returns-in_err-copy-clause-near g c = λ told. near_error _ _ _ _ c.from_residual.ensures.1 tt

pub returns-in_err-inspection-clause-answered : goal.returns-in_err-inspection-clause-answered
returns-in_err-inspection-clause-answered g c = runs_short_by _ _ c.from_residual-in_err-inspection.ensures.1

pub returns-in_err-inspection-clause-near : goal.returns-in_err-inspection-clause-near
returns-in_err-inspection-clause-near g c = λ told. near_error _ _ _ _ c.from_residual-in_err-inspection.ensures.1 tt
