use Rattle.std.proofs.Common.{◌∙◌}
use Rattle.lt_resolve.proofs.Maps.{among-borrowed}
use Rattle.lt_resolve.proofs.names.Names.has.Goals as goal

pub returns : goal.returns
returns c = c.contains.ensures ∙ among-borrowed c.args.name.now c.self.inside.set.keys c.args.self.now c.self.view_is
