use Rattle.lt_c_bodies.proofs.Telling.{same_work}
use Rattle.lt_c_node.proofs.laws.comments_change_nothing.Goals as goal

pub returns : goal.returns
returns c = same_work
