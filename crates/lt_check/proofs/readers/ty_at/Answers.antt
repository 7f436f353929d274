use Rattle.std.proofs.Common.{Some, None}
use Rattle.lt_check.proofs.Found.{ty_found}
use Rattle.lt_check.proofs.readers.ty_at.Goals as goal

pub returns-in-Some : goal.returns-in-Some
returns-in-Some c = ty_found c.args.decls.now c.deref.result.now c.args.variable (Some c.in-Some.decl) c.deref.ensures c.in-Some.ensures.lookup

pub returns-in-None : goal.returns-in-None
returns-in-None c = ty_found c.args.decls.now c.deref.result.now c.args.variable None c.deref.ensures c.in-None.ensures.lookup
