use Rattle.lt_check.proofs.Found.{ty_within}
use Rattle.lt_check.proofs.readers.declared_type.Goals as goal

pub returns : goal.returns
returns c = ty_within c.args.decls.now c.deref.result.now c.args.variable _ c.deref.ensures c.requires
