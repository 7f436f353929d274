use Rattle.std.proofs.Common.{sym}
use Rattle.lt_base.proofs.Columns.{length-rows_below}
use Rattle.lt_base.proofs.inputs.Inputs.rows.Goals as goal

pub returns : goal.returns
returns c = rw (← c.self.view_is) (sym (length-rows_below _ _))
