use Rattle.lt_config.proofs.Ascending.{ascending}
use Rattle.lt_config.proofs.nodes.ascends.Goals as goal

pub returns : goal.returns
returns c = ascending c.args.entries.now.entries c.len-count.ensures.ordered
