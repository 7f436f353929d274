use Rattle.std.proofs.Common.{◌∙◌, sym, ap}
use Rattle.lt_place.specs.declared.layout.Feed.{Feed}
use Rattle.lt_c_node.specs.NodeOf.{source_of}
use Rattle.lt_c_node.proofs.part.source_of.Goals as goal

pub returns-in-Cross : goal.returns-in-Cross
returns-in-Cross c = c.arrived.ensures c.args.x ∙ ap (λ (d : Feed). source_of c.args.layout.now c.args.x d) (sym c.in-Cross.is)
