use Rattle.lt_base.proofs.Columns.{Filling}
use Rattle.lt_base.proofs.inputs.put_row.Given as goal

abbrev pub invariant-loop-input : goal.invariant-loop-input
invariant-loop-input l = Filling l.rows l.row l.input l.initial.columns.items l.columns.items
