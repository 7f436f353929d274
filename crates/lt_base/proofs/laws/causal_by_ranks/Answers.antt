use Rattle.lt_base.proofs.Behaviour.{causal_by_ranks}
use Rattle.lt_base.proofs.laws.causal_by_ranks.Goals as goal

pub returns : goal.returns
returns c = causal_by_ranks
