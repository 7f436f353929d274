use Rattle.lt_c.proofs.Sounds.{nothing_undefined}
use Rattle.lt_c.proofs.laws.nothing_undefined.Goals as goal

pub returns : goal.returns
returns c = nothing_undefined
