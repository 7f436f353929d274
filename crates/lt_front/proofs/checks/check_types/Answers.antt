use Rattle.std.proofs.Common.{refl}
use Rattle.lt_front.proofs.Outcomes.{refused}
use Rattle.lt_front.proofs.checks.check_types.Goals as goal

pub returns-in-Ok : goal.returns-in-Ok
returns-in-Ok c = (c.in-Ok.ensures.typed.0 refl, refl)

pub returns-in-Err : goal.returns-in-Err
returns-in-Err c = (λ typed. refused tt c.in-Err.fault (c.in-Err.ensures.typed.1 typed), ((c.in-Err.ensures.fault c.in-Err.fault).0 refl, refl))
