use Rattle.lt_base.proofs.Behaviour.{one_behaviour}
use Rattle.lt_base.proofs.laws.one_behaviour.Goals as goal

pub returns : goal.returns
returns c = one_behaviour
