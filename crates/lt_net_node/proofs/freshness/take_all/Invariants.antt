use Rattle.std.proofs.Common.{length}
use Rattle.std.specs.Prelude.{slice_index_or}
use Rattle.lt_net_node.specs.Freshness.{TakenUpTo}
use Rattle.lt_link.specs.Ports.{is_to}
use Rattle.lt_net_node.proofs.freshness.take_all.Given as goal

abbrev pub invariant-loop-number : goal.invariant-loop-number
invariant-loop-number l = TakenUpTo (slice_index_or l.numbers l.number-index (length l.channels)) (is_to l.channels l.node l.kind) l.initial.inboxes.items l.inboxes.items
