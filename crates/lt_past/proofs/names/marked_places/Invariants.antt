use Rattle.std.proofs.Common.{◌≡◌}
use Rattle.lt_past.specs.Marking.{marked_below}
use Rattle.lt_past.proofs.names.marked_places.Given as goal

abbrev pub invariant-loop-place : goal.invariant-loop-place
invariant-loop-place l = l.outs ≡ marked_below l.marks l.place
