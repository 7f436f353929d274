use Rattle.lt_c_node.proofs.Agreeing.{law}
use Rattle.lt_c_node.proofs.laws.header_agrees.Goals as goal

pub returns : goal.returns
returns c = law
