use Rattle.lt_cli_c.proofs.Obeying.{answer_done}
use Rattle.lt_cli_c.proofs.top.obey.Goals as goal

pub returns : goal.returns
returns g c = answer_done _ _ _ _ _ _ _ _ c.answer-answer.result _ c.answer-answer.ensures c.finish.ensures.finishes
