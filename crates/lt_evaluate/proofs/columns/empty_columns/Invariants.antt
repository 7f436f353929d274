use Rattle.std.proofs.Common.{◌≡◌, [], replicate}
use Rattle.lt_evaluate.proofs.columns.empty_columns.Given as goal

abbrev pub invariant-loop-column : goal.invariant-loop-column
invariant-loop-column l = l.columns.items ≡ replicate l._column []
