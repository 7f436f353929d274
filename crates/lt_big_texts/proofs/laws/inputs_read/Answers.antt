use Rattle.lt_big_texts.proofs.InputRows.{inputs_read}
use Rattle.lt_big_texts.proofs.laws.inputs_read.Goals as goal

pub returns : goal.returns
returns c f instants one high = inputs_read f instants one high
