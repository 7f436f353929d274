use Rattle.std.proofs.Common.{refl}
use Rattle.lt_front.proofs.Refused.{clocks_refuse}
use Rattle.lt_front.proofs.Rooms.{equations_fit}
use Rattle.lt_front.proofs.checks.check_clocks.Goals as goal

pub clocks-requires-clause-equations : goal.clocks-requires-clause-equations
clocks-requires-clause-equations c = equations_fit c.args.named.tree c.args.named.program c.args.named.room c.requires

pub returns-in-Ok : goal.returns-in-Ok
returns-in-Ok c = (c.in-Ok.ensures.ok, refl)

pub returns-in-Err : goal.returns-in-Err
returns-in-Err c = clocks_refuse c.args.named _ _ c.of_clocks.ensures c.in-Err.ensures.clocked c.in-Err.ensures.fault
