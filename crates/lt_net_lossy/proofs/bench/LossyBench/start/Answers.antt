use Rattle.std.proofs.Common.{sym, subst}
use Rattle.lt_net_lossy.specs.Starts.{IsMadeOfLossy, IsFreshLossy}
use Rattle.lt_net_lossy.specs.Taken.{IsKeptLossy}
use Rattle.lt_net_lossy.proofs.StartedLossy.{made_of, fresh, kept}
use Rattle.lt_net_lossy.proofs.bench.LossyBench.start.Goals as goal

pub returns-in-Ok-clause-made : goal.returns-in-Ok-clause-made
returns-in-Ok-clause-made g c =
    let h = c.first_lossy_bench.ensures in
    subst (IsMadeOfLossy c.args.layout c.args.shape c.args.timing c.args.losses c.args.rows c.args.machines.items) (sym h.is)
    (made_of g.C.Controller g.M.Machine c.requires.placed.0 c.args.layout c.requires.placed.1 c.args.shape c.args.timing c.args.losses c.args.rows c.requires.protocol c.requires.shape c.requires.nodes c.requires.window c.requires.numbered
    c.args.machines.items c.requires.machines c.args.controllers.items c.requires.controllers h.bench h.first c.in-Ok.first.watch c.in-Ok.ensures.watch c.in-Ok.first.sent.items c.in-Ok.ensures.sent h.posted h.again)

pub returns-in-Ok-clause-fresh : goal.returns-in-Ok-clause-fresh
returns-in-Ok-clause-fresh g c =
    let h = c.first_lossy_bench.ensures in
    subst (IsFreshLossy g.C.Controller g.M.Machine) (sym h.is)
    (fresh g.C.Controller g.M.Machine c.requires.placed.0 c.args.layout c.requires.placed.1 c.args.shape c.args.timing c.args.losses c.args.rows c.requires.protocol c.requires.shape c.requires.nodes c.requires.window c.requires.numbered
    c.args.machines.items c.requires.machines c.args.controllers.items c.requires.controllers h.bench h.first c.in-Ok.first.watch c.in-Ok.ensures.watch c.in-Ok.first.sent.items c.in-Ok.ensures.sent h.posted h.again)

pub returns-in-Ok-clause-kept : goal.returns-in-Ok-clause-kept
returns-in-Ok-clause-kept g c =
    let h = c.first_lossy_bench.ensures in
    subst (IsKeptLossy) (sym h.is)
    (kept g.C.Controller g.M.Machine c.requires.placed.0 c.args.layout c.requires.placed.1 c.args.shape c.args.timing c.args.losses c.args.rows c.requires.protocol c.requires.shape c.requires.nodes c.requires.window c.requires.numbered
    c.args.machines.items c.requires.machines c.args.controllers.items c.requires.controllers h.bench h.first c.in-Ok.first.watch c.in-Ok.ensures.watch c.in-Ok.first.sent.items c.in-Ok.ensures.sent h.posted h.again)
