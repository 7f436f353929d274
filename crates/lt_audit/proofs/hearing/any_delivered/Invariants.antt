-- No channel to the node before this one has delivered enough.
use Rattle.std.proofs.Common.{◌≡◌, false, map, length, slice_index_or}
use Rattle.lt_arch.specs.Deeds.{some_below}
use Rattle.lt_audit.specs.Audit.{kept_of}
use Rattle.lt_audit.specs.Acts.{delivered_one}
use Rattle.lt_audit.proofs.hearing.any_delivered.Given as goal

abbrev pub invariant-loop-number : goal.invariant-loop-number
invariant-loop-number l = some_below (delivered_one l.wiring.channels (map kept_of l.lines) l.node l.kind l.executed) (slice_index_or l.numbers l.number-index (length l.wiring.channels)) ≡ false
