use Rattle.std.proofs.Common.{◌+◌, length}
use Rattle.std.specs.List.{sum_by, sum}
use Rattle.lt_cause.proofs.Round.{Circling, unseen}
use Rattle.lt_cause.proofs.circling.circle.Given as goal

abbrev pub invariant-loop-x : goal.invariant-loop-x
invariant-loop-x l = Circling l.table l.start l.seen.items l.rest.items l.path.items

abbrev pub decreases-loop-x : goal.decreases-loop-x
decreases-loop-x l = sum l.rest.items + length l.path.items + sum_by unseen l.seen.items
