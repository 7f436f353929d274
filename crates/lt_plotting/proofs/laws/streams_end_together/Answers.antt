use Rattle.lt_plotting.proofs.Solid.{together_law}
use Rattle.lt_plotting.proofs.laws.streams_end_together.Goals as goal

pub returns : goal.returns
returns c = together_law
