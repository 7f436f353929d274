use Rattle.std.proofs.Common.{◌≤◌, ◌<◌, ℕ, Option, sym, subst}
use Rattle.std.specs.Prelude.{IfSome}
use Rattle.lt_arch.specs.declared.limits.TheConstants.{GREATEST_TIME}
use Rattle.lt_arch.specs.Readers.{chan_count}
use Rattle.lt_audit.specs.Audit.{AuditState}
use Rattle.lt_audit.proofs.Seen.{sent_timely}
use Rattle.lt_audit.proofs.auditor.Auditor.in_transit.Goals as goal

pub returns-clause-timely : goal.returns-clause-timely
returns-clause-timely c =
    let channel = subst (λ (a : AuditState). c.args.channel < chan_count a.shape) (sym c.self.view_is) c.requires in
    subst (λ (o : Option ℕ). IfSome o (λ sent. sent ≤ GREATEST_TIME)) (sym c.in_transit.ensures) (sent_timely _ c.args.place (c.self.invariant.timely c.args.channel channel))
