use Rattle.lt_net_lossy.proofs.NextLossy.{held_next}
use Rattle.lt_net_lossy.proofs.net.LossyNet.event.Goals as goal

pub returns-in-Ok-clause-holds : goal.returns-in-Ok-clause-holds
returns-in-Ok-clause-holds g c =
    held_next _ g.M.Machine _ _ c.args.e _ _ _ (rw (← c.self.view_is) at c.requires.event.placed) (rw (← c.self.view_is) at c.requires.row c.in_default.is) (rw (← c.self.view_is) at c.requires.holds c.in_default.is) c.in-Ok.ensures.taken
