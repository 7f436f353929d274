use Rattle.std.proofs.Common.{◌∙◌, ap, not}
use Rattle.lt_resolve.proofs.Maps.{among-borrowed, inserted}
use Rattle.lt_resolve.proofs.names.Names.insert.Goals as goal

pub returns-clause-fresh : goal.returns-clause-fresh
returns-clause-fresh c = c.in_ok-fresh.ensures.added ∙ ap not (among-borrowed c.args.name.now c.self.inside.set.keys c.args.self.now c.self.view_is)

pub returns-clause-names : goal.returns-clause-names
returns-clause-names c = inserted c.args.name c.self.inside.set.keys _ c.args.self.now c.self.view_is c.in_ok-fresh.ensures.keys
