use Rattle.lt_base.proofs.Behaviour.{streams_grow}
use Rattle.lt_base.proofs.laws.streams_grow.Goals as goal

pub returns : goal.returns
returns c = streams_grow
