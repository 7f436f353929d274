use Rattle.lt_resolve.proofs.Terms.{called_function}
use Rattle.lt_resolve.proofs.expression.call.Goals as goal

pub returns-in-Function-clause-called : goal.returns-in-Function-clause-called
returns-in-Function-clause-called c = called_function c.args.callee c.in-Function.g _ c.args.args c.in-Function.is
