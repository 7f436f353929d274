use Rattle.lt_expand.proofs.Lawful.{programs_expand}
use Rattle.lt_expand.proofs.laws.programs_expand.Goals as goal

pub returns : goal.returns
returns c = programs_expand
