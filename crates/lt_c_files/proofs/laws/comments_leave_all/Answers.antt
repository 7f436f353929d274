use Rattle.lt_c_files.proofs.Commented.{comments_leave_all}
use Rattle.lt_c_files.proofs.laws.comments_leave_all.Goals as goal

pub returns : goal.returns
returns c = comments_leave_all
