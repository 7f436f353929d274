use Rattle.lt_resolve.proofs.Inside.{inside}
use Rattle.lt_resolve.proofs.laws.faults_stand_inside.Goals as goal

pub returns : goal.returns
returns c = inside
