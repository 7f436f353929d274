use Rattle.lt_compile.proofs.Chain.{chain}
use Rattle.lt_compile.proofs.laws.chain_holds.Goals as goal

pub returns : goal.returns
returns g c = chain g.M.Machine
