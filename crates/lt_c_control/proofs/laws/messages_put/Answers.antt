use Rattle.lt_c_control.proofs.Delivered.{messages_put}
use Rattle.lt_c_control.proofs.laws.messages_put.Goals as goal

pub returns : goal.returns
returns c = messages_put
