-- Each channel to the node before this one has delivered enough.
use Rattle.std.proofs.Common.{◌≡◌, true, map, length, slice_index_or}
use Rattle.lt_arch.specs.Deeds.{all_below}
use Rattle.lt_audit.specs.Audit.{kept_of}
use Rattle.lt_audit.specs.Acts.{delivered_or_other}
use Rattle.lt_audit.proofs.hearing.all_delivered.Given as goal

abbrev pub invariant-loop-number : goal.invariant-loop-number
invariant-loop-number l = all_below (delivered_or_other l.wiring.channels (map kept_of l.lines) l.node l.kind l.executed) (slice_index_or l.numbers l.number-index (length l.wiring.channels)) ≡ true
