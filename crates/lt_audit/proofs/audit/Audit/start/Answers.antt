use Rattle.std.proofs.Common.{[], subst}
use Rattle.lt_audit.specs.Standing.{AuditStands}
use Rattle.lt_audit.proofs.audit.Audit.start.Goals as goal

pub returns-clause-kept : goal.returns-clause-kept
returns-clause-kept c = c.of_wiring.ensures.kept

pub returns-clause-stands : goal.returns-clause-stands
returns-clause-stands c = rw c.in_ok-wiring.ensures at c.of_wiring.ensures.stands
