use Rattle.lt_lossy_course.proofs.LossyAgreeing.{agrees_file}
use Rattle.lt_lossy_course.proofs.laws.draws_as_judged.Goals as goal

pub returns : goal.returns
returns c = agrees_file
