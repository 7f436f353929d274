use Rattle.std.proofs.Common.{IfOk, subst}
use Rattle.lt_net_node.specs.Channels.{IsShapeOf}
use Rattle.lt_lead.proofs.paced.answered_shape.Goals as goal

pub returns : goal.returns
returns c = subst (λ p. IfOk c.shape_of.result (IsShapeOf c.args.layout.now p)) c.requires.acknowledges c.shape_of.ensures
