use Rattle.std.proofs.Common.{◌≡◌, false, length}
use Rattle.std.specs.Prelude.{slice_index_or}
use Rattle.lt_arch.specs.Deeds.{some_below}
use Rattle.lt_net_node.specs.Freshness.{fresh_one}
use Rattle.lt_net_node.proofs.freshness.any_fresh.Given as goal

abbrev pub invariant-loop-number : goal.invariant-loop-number
invariant-loop-number l = some_below (fresh_one l.channels l.inboxes l.node l.kind) (slice_index_or l.numbers l.number-index (length l.channels)) ≡ false
