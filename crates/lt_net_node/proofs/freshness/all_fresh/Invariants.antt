use Rattle.std.proofs.Common.{◌≡◌, true, length}
use Rattle.std.specs.Prelude.{slice_index_or}
use Rattle.lt_arch.specs.Deeds.{all_below}
use Rattle.lt_net_node.specs.Freshness.{fresh_or_other}
use Rattle.lt_net_node.proofs.freshness.all_fresh.Given as goal

abbrev pub invariant-loop-number : goal.invariant-loop-number
invariant-loop-number l = all_below (fresh_or_other l.channels l.inboxes l.node l.kind) (slice_index_or l.numbers l.number-index (length l.channels)) ≡ true
