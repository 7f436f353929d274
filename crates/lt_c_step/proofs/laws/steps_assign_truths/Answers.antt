use Rattle.lt_c_step.proofs.BoolSlots.{steps_assign_truths}
use Rattle.lt_c_step.proofs.laws.steps_assign_truths.Goals as goal

pub returns : goal.returns
returns c = steps_assign_truths
