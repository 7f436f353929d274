use Rattle.lt_c_net.proofs.Shaped.{shapes_serve}
use Rattle.lt_c_net.proofs.laws.shapes_serve.Goals as goal

pub returns : goal.returns
returns c = shapes_serve
