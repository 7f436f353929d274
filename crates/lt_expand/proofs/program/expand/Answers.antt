use Rattle.std.proofs.Common.{arith}
use Rattle.lt_expand.proofs.Whole.{expansion_room}
use Rattle.lt_expand.proofs.program.expand.Goals as goal

pub expand_main-requires-clause-room : goal.expand_main-requires-clause-room
expand_main-requires-clause-room c = expansion_room c.args.p.now (let w = c.in_ok-needed.ensures.weight in omega (arith, w, c.if-needed-gt-GREATEST_WEIGHT.false))
