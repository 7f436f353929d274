use Rattle.lt_check.proofs.Found.{function_found}
use Rattle.lt_check.proofs.readers.function_at.Goals as goal

pub returns : goal.returns
returns c = function_found c.args.funcs.now c.deref.result.now c.args.number c.get.result c.deref.ensures c.get.ensures.lookup
