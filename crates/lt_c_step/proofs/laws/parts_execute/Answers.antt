use Rattle.lt_c_step.proofs.Executing.{parts_execute}
use Rattle.lt_c_step.proofs.laws.parts_execute.Goals as goal

pub returns : goal.returns
returns c = parts_execute
