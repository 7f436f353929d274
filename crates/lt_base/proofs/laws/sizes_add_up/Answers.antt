use Rattle.lt_base.proofs.Behaviour.{sizes_add_up}
use Rattle.lt_base.proofs.laws.sizes_add_up.Goals as goal

pub returns : goal.returns
returns c = sizes_add_up
