use Rattle.lt_net_lossy.proofs.StartedLossy.{at_start_of, opened_with, opened_kinds}
use Rattle.lt_net_lossy.proofs.net.LossyNet.start.Goals as goal

pub start-requires-clause-controllers : goal.start-requires-clause-controllers
start-requires-clause-controllers g c = at_start_of _ c.args.shape c.args.timing c.requires.protocol c.in_ok-controllers.controllers.items c.len.result c.len.ensures c.in_ok-controllers.ensures.count c.in_ok-controllers.ensures.phases

pub returns-in-Ok-clause-opened : goal.returns-in-Ok-clause-opened
returns-in-Ok-clause-opened g c = λ old new opens. opened_with _ g.M.Machine c.in-Ok.bench c.in-Ok.ensures.fresh c.args.layout c.args.shape old new opens

pub returns-in-Ok-clause-kinds : goal.returns-in-Ok-clause-kinds
returns-in-Ok-clause-kinds g c = λ old new opens. opened_kinds c.args.layout c.args.shape c.args.timing c.args.losses c.args.rows c.args.machines.items c.in-Ok.bench c.in-Ok.ensures.made old new opens
