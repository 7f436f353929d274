use Rattle.std.proofs.Common.{take}
use Rattle.lt_watch.specs.Judged.{IsShortest}
use Rattle.lt_watch.proofs.judging.least_of_all.Given as goal

abbrev pub invariant-lists : goal.invariant-lists
invariant-lists l = IsShortest (take l.k l.cells) l.least
