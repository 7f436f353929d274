use Rattle.lt_plotting.proofs.Lines.{says_law}
use Rattle.lt_plotting.proofs.laws.says_as_watch.Goals as goal

pub returns : goal.returns
returns c = says_law
