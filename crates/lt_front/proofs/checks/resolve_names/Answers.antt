use Rattle.std.proofs.Common.{refl}
use Rattle.lt_front.proofs.Refused.{names_refuse}
use Rattle.lt_front.proofs.checks.resolve_names.Goals as goal

pub returns-in-Ok : goal.returns-in-Ok
returns-in-Ok c = (c.in-Ok.ensures, refl)

pub returns-in-Err : goal.returns-in-Err
returns-in-Err c = names_refuse c.args.tree _ _ c.of_names.ensures c.in-Err.ensures
