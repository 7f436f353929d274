use Rattle.lt_resolve.proofs.Numbers.{is_callable, is_uncallable}
use Rattle.lt_resolve.proofs.expression.callee_of.Goals as goal

pub returns-in-Some-clause-told : goal.returns-in-Some-clause-told
returns-in-Some-clause-told c = is_callable c.args.functions.now c.args.name.now c.in-Some.g c.in-Some.ensures

pub returns-in-None-operator_of-clause-told : goal.returns-in-None-operator_of-clause-told
returns-in-None-operator_of-clause-told c = is_uncallable c.args.functions.now c.args.name.now c.in-None.ensures c.in-None-operator_of.ensures
