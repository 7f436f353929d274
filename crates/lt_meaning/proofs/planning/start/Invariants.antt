use Rattle.std.proofs.Common.{◌≡◌, length}
use Rattle.lt_meaning.proofs.planning.start.Given as goal

abbrev pub invariant-loop-variable : goal.invariant-loop-variable
invariant-loop-variable l = length l.cells.items ≡ l._variable
