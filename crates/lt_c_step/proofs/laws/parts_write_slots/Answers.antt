use Rattle.lt_c_step.proofs.Executing.{parts_write_slots}
use Rattle.lt_c_step.proofs.laws.parts_write_slots.Goals as goal

pub returns : goal.returns
returns c = parts_write_slots
