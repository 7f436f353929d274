use Rattle.lt_expand.proofs.Whole.{expansion_room}
use Rattle.lt_expand.proofs.program.expand_within.Goals as goal

pub expand_main-requires-clause-room : goal.expand_main-requires-clause-room
expand_main-requires-clause-room c = expansion_room c.args.p.now c.requires.within.0
