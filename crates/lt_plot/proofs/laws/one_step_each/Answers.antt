use Rattle.lt_plot.proofs.Stepping.{law}
use Rattle.lt_plot.proofs.laws.one_step_each.Goals as goal

pub returns : goal.returns
returns c = law
