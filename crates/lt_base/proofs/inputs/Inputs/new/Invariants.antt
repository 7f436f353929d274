use Rattle.std.proofs.Common.{◌≡◌, length}
use Rattle.lt_base.proofs.inputs.Inputs.new.Given as goal

abbrev pub invariant-loop-column : goal.invariant-loop-column
invariant-loop-column l = length l.columns.items ≡ l._column
