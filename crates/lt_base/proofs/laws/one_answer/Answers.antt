use Rattle.lt_base.proofs.Behaviour.{one_answer}
use Rattle.lt_base.proofs.laws.one_answer.Goals as goal

pub returns : goal.returns
returns c = one_answer
