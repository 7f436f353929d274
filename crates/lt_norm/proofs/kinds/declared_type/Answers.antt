use Rattle.std.proofs.Common.{Some, None}
use Rattle.lt_norm.proofs.Found.{type_found}
use Rattle.lt_norm.proofs.kinds.declared_type.Goals as goal

pub returns-in-Some : goal.returns-in-Some
returns-in-Some c = type_found c.args.known.now c.deref.result.now c.args.variable (Some c.in-Some.decl) c.deref.ensures c.in-Some.ensures.lookup

pub returns-in-None : goal.returns-in-None
returns-in-None c = type_found c.args.known.now c.deref.result.now c.args.variable None c.deref.ensures c.in-None.ensures.lookup
