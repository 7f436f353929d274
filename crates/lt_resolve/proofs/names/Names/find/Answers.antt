use Rattle.lt_resolve.proofs.Numbers.{not_missing, is_missing}
use Rattle.lt_resolve.proofs.names.Names.find.Goals as goal

pub returns-in-Some-clause-told : goal.returns-in-Some-clause-told
returns-in-Some-clause-told c = not_missing c.args.self.now c.args.name.now c.in-Some.i c.in-Some.ensures

pub returns-in-None-clause-told : goal.returns-in-None-clause-told
returns-in-None-clause-told c = is_missing c.args.self.now c.args.name.now c.in-None.ensures
