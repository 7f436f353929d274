use Rattle.std.proofs.Common.{◌≤◌, length}
use Rattle.lt_past.specs.Marking.{IsMarkedTo}
use Rattle.lt_past.proofs.names.mark_names.Given as goal

abbrev pub invariant-text : goal.invariant-text
invariant-text l = record {
  within : length l.rest ≤ length l.fn.bytes;
  so_far : IsMarkedTo l.fn.main l.fn.bytes l.rest l.fn.marks l.marks;
}

abbrev pub decreases-text : goal.decreases-text
decreases-text l = length l.rest
