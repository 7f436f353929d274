use Rattle.lt_course.proofs.Missing.{told_first}
use Rattle.lt_course.proofs.laws.tells_first_miss.Goals as goal

pub returns : goal.returns
returns c = told_first
