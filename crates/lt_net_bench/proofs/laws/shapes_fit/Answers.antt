use Rattle.lt_net_node.proofs.LayoutShape.{shapes_fit}
use Rattle.lt_net_bench.proofs.laws.shapes_fit.Goals as goal

pub returns : goal.returns
returns c = shapes_fit
