use Rattle.std.proofs.Common.{None}
use Rattle.lt_net_lossy.proofs.TakenByCode.{delivers_some, delivered_taken}
use Rattle.lt_net_lossy.proofs.bench.LossyBench.deliver.Goals as goal

pub receive-requires-clause-some : goal.receive-requires-clause-some
receive-requires-clause-some g c =
    delivers_some g.C.Controller g.M.Machine c.args.self.now c.args.ch c.args.at _ c.requires.channel c.requires.passes c.requires.held

pub returns-clause-taken : goal.returns-clause-taken
returns-clause-taken g c = λ row.
    delivered_taken g.C.Controller g.M.Machine _ _ _ _ _ _ c.args.self.now c.bench.view_is c.self.view_is c.requires.kept c.args.ch c.args.at c.requires.time c.requires.channel _ _ c.requires.kinds c.requires.passes
    c.receive.new.inboxes.items c.in_ok-receive.ensures.ok c.delivered.new.self c.delivered.ensures.times _ c.receive.ensures.scratch row

pub returns-clause-kept : goal.returns-clause-kept
returns-clause-kept g c = (returns-clause-taken g c None).kept
