use Rattle.lt_resolve.proofs.One.{one_program}
use Rattle.lt_resolve.proofs.laws.one_program.Goals as goal

pub returns : goal.returns
returns c = one_program
