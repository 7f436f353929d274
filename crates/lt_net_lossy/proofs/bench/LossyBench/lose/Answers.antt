use Rattle.lt_net_lossy.proofs.TakenByCode.{loses_some, loses_few_by, lost_taken}
use Rattle.lt_net_lossy.proofs.bench.LossyBench.lose.Goals as goal

pub lose-requires-clause-some : goal.lose-requires-clause-some
lose-requires-clause-some g c =
    loses_some g.C.Controller g.M.Machine c.args.self.now c.args.ch c.args.at _ c.requires.channel c.requires.passes c.requires.held

pub lost-requires-clause-few : goal.lost-requires-clause-few
lost-requires-clause-few g c =
    loses_few_by g.C.Controller g.M.Machine _ c.args.self.now c.self.view_is c.args.ch c.args.at _ c.requires.channel c.requires.passes c.requires.held

pub returns-clause-taken : goal.returns-clause-taken
returns-clause-taken g c = λ row.
    lost_taken g.C.Controller g.M.Machine _ _ _ _ _ _ c.args.self.now c.bench.view_is c.self.view_is c.requires.kept c.args.ch c.args.at c.requires.time c.requires.channel _ _ c.requires.kinds c.requires.passes
    c.in_ok-lose.ensures.ok c.lost.new.self c.lost.ensures.times _ c.lose.ensures.scratch row
