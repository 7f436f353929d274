use Rattle.lt_big_accepted.proofs.Spelled.{program_spelled}
use Rattle.lt_big_accepted.proofs.laws.program_spelled.Goals as goal

pub returns : goal.returns
returns c = program_spelled
