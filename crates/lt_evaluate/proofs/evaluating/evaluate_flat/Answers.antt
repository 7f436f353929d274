use Rattle.lt_evaluate.proofs.Stepped.{steps_at}
use Rattle.lt_evaluate.proofs.evaluating.evaluate_flat.Goals as goal

pub returns-clause-steps_code : goal.returns-clause-steps_code
returns-clause-steps_code c = let stepped = c.in_ok-columns.ensures.stepped in steps_at _ _ c.flat.view_is _ _ stepped.stands.code_of stepped.made
