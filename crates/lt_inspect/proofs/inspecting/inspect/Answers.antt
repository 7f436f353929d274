use Rattle.std.proofs.Common.{◌∙◌, subst}
use Rattle.lt_arch.specs.declared.shape.Shape.{Shape}
use Rattle.lt_answer.proofs.Stages.{runs_short_by}
use Rattle.lt_inspect.specs.Inspecting.{AsFault, IsInspected}
use Rattle.lt_load.proofs.Elsewhere.{near_error}
use Rattle.lt_inspect.proofs.Elsewhere.{near_halted}
use Rattle.lt_inspect.proofs.Outcome.{took, halted}
use Rattle.lt_inspect.proofs.inspecting.inspect.Goals as goal

pub returns-in-Ok-clause-answered : goal.returns-in-Ok-clause-answered
returns-in-Ok-clause-answered g c =
    let i = c.replay_schedule-replayed.new.replica in
    took _ _ _ (λ events done. IsInspected i.auditor i.tap.selection i.tap.shape i.text events) _ _ c.args.schedule.now c.replay_schedule-replayed.ensures.keeps_files c.in-Ok.ensures.visits c.in-Ok.ensures.cause c.in-Ok.ensures.judged

pub returns-in-Ok-clause-ended : goal.returns-in-Ok-clause-ended
returns-in-Ok-clause-ended g c = (c.in-Ok.ensures.judged.1.events, c.in-Ok.ensures.judged.1.stands_for)

pub returns-in-Err-clause-answered : goal.returns-in-Err-clause-answered
returns-in-Err-clause-answered g c =
    let i = c.replay_schedule-replayed.new.replica in
    halted c.args.inspection.now.auditor.shape c.args.inspection.now.auditor.watch.timing c.args.inspection.now.auditor.rows (λ events done. IsInspected i.auditor i.tap.selection i.tap.shape i.text events) _ _ c.args.schedule.now
    c.replay_schedule-replayed.ensures.keeps_files c.in-Err.halt c.as_fault.result
    (subst (λ (s : Shape). AsFault s c.in-Err.halt c.as_fault.result) (c.shape.ensures ∙ c.replay_schedule-replayed.ensures.keeps.0) c.as_fault.ensures)
    c.in-Err.ensures.visits c.in-Err.ensures.cause c.in-Err.ensures.link_cause c.replay_schedule-replayed.ensures.sound c.in-Err.ensures.judged

pub returns-in_err-lines-clause-answered : goal.returns-in_err-lines-clause-answered
returns-in_err-lines-clause-answered g c = runs_short_by _ _ c.from_residual.ensures.1

pub returns-in-Err-clause-near : goal.returns-in-Err-clause-near
returns-in-Err-clause-near g c = near_halted _ _ _ _ _ c.in-Err.halt c.as_fault.result c.as_fault.ensures c.in-Err.ensures.judged

pub returns-in_err-lines-clause-near : goal.returns-in_err-lines-clause-near
returns-in_err-lines-clause-near g c = λ told. near_error _ _ _ _ c.from_residual.ensures.1 tt
