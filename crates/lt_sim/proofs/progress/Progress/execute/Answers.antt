use Rattle.std.proofs.Common.{refl}
use Rattle.lt_sim.proofs.Arriving.{executed_on}
use Rattle.lt_sim.proofs.progress.Progress.execute.Goals as goal

pub returns : goal.returns
returns c s e d at lt none =
    executed_on c.args.self.now _ s e d c.args.node c.index_mut.result.now at lt none c.index_mut.ensures.value refl refl
    c.execute.ensures.wanted c.execute.ensures.fresh c.execute.ensures.early c.execute-2.ensures.wanted c.execute-2.ensures.fresh c.execute-2.ensures.early
