use Rattle.std.proofs.Common.{take, map}
use Rattle.lt_watch.specs.Judged.{IsShortest, column}
use Rattle.lt_watch.proofs.judging.least_at.Given as goal

abbrev pub invariant-places : goal.invariant-places
invariant-places l = IsShortest (map (column l.cells) (take l.k l.outs)) l.least
