use Rattle.lt_lossy.specs.Schedule.{lossy_reached}
use Rattle.lt_lossy_audit.proofs.LossyOn.{kept_on}
use Rattle.lt_lossy_audit.proofs.audit.LossyAudit.take.Goals as goal

pub returns-clause-kept : goal.returns-clause-kept
returns-clause-kept g c =
    let a = c.args.self.now in
    let kept = c.requires.kept in
    let none = c.requires.passes a.shape kept.timing kept.limit (lossy_reached a.shape kept.timing a.rows kept.events) kept.stands.state.times in
    kept_on a c.change.new.self c.args.e kept.nodes kept.links c.requires.event.placed c.change.ensures kept none
