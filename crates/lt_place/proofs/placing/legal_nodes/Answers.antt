use Rattle.lt_place.proofs.Refused.{refused}
use Rattle.lt_place.proofs.placing.legal_nodes.Goals as goal

pub returns-clause-refused : goal.returns-clause-refused
returns-clause-refused c = refused c.args.f.now c.args.p.now c.invariant_holds.ensures.good c.locate_nodes.result c.locate_nodes.ensures.first
