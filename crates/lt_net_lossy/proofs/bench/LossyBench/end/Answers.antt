use Rattle.lt_net_lossy.proofs.TakenByCode.{end_taken, end_kept, end_static}
use Rattle.lt_net_lossy.proofs.bench.LossyBench.end.Goals as goal

pub returns-clause-taken : goal.returns-clause-taken
returns-clause-taken g c = λ fabric row.
    end_taken g.C.Controller g.M.Machine _ c.args.self.now c.self.view_is c.requires.kept c.args.at c.requires.time c.requires.passes c.ended.new.self c.ended.ensures.times row fabric

pub returns-clause-kept : goal.returns-clause-kept
returns-clause-kept g c = end_kept _ c.args.self.now c.self.view_is c.requires.kept c.args.at c.ended.new.self c.ended.ensures.times

pub returns-clause-fixed : goal.returns-clause-fixed
returns-clause-fixed g c = end_static _ c.args.self.now c.self.view_is c.args.at c.ended.new.self c.ended.ensures.times
