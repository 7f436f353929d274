use Rattle.std.proofs.Common.{refl}
use Rattle.lt_front.proofs.Refused.{circle_refuses}
use Rattle.lt_front.proofs.Rooms.{equations_fit}
use Rattle.lt_front.proofs.checks.check_causality.Goals as goal

pub causality-requires-clause-equations : goal.causality-requires-clause-equations
causality-requires-clause-equations c = equations_fit c.args.named.tree c.args.named.program c.args.named.room c.requires

pub returns-in-Ok : goal.returns-in-Ok
returns-in-Ok c = (c.in-Ok.ensures, refl)

pub returns-in-Err : goal.returns-in-Err
returns-in-Err c = circle_refuses c.args.named _ _ c.of_circle.ensures c.in-Err.ensures
