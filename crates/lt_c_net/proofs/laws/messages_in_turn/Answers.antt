use Rattle.lt_c_net.proofs.InTurn.{messages_in_turn}
use Rattle.lt_c_net.proofs.laws.messages_in_turn.Goals as goal

pub returns : goal.returns
returns c = messages_in_turn
