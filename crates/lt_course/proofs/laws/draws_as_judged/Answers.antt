use Rattle.lt_course.proofs.Agreeing.{agrees_file}
use Rattle.lt_course.proofs.laws.draws_as_judged.Goals as goal

pub returns : goal.returns
returns c = agrees_file
