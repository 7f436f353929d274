use Rattle.lt_big_accepted.proofs.Checks.{program_accepted}
use Rattle.lt_big_accepted.proofs.laws.program_accepted.Goals as goal

pub returns : goal.returns
returns c = program_accepted
