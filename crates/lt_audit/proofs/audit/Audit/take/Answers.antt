use Rattle.std.proofs.Common.{◌^◌, ◌+◌, ◌-◌, ◌<◌, sym, subst, arith}
use Rattle.std.proofs.Math.Nat.{min-le_right}
use Rattle.lt_audit.specs.Audit.{AuditState, IsKeptAudit}
use Rattle.lt_audit.proofs.KeptOn.{kept_on}
use Rattle.lt_audit.proofs.StandsOn.{retaken}
use Rattle.lt_audit.proofs.audit.Audit.take.Goals as goal

pub returns-clause-kept : goal.returns-clause-kept
returns-clause-kept g c =
    let k = c.saturating_add-self-inside.result in
    let fits : k < 2 ^ 32 = let e = c.saturating_add-self-inside.ensures in let le = min-le_right (c.self.inside.taken + 1) (2 ^ 32 - 1) in omega (arith, e, le) in
    subst (λ (m : AuditState). IsKeptAudit (record m { taken = k })) (sym c.self.view_is)
    (kept_on c.args.self.now (record c.change.new.self { taken = k }) c.requires.kept fits c.args.e c.requires.event (retaken c.args.self.now c.change.new.self k c.args.e c.in_ok-change.ensures.takes))
