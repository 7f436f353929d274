use Rattle.std.proofs.Common.{length, true}
use Rattle.std.specs.Prelude.{slice_index_or}
use Rattle.lt_link.specs.Ports.{is_from}
use Rattle.lt_net_lossy.specs.Changes.{PostedUpTo}
use Rattle.lt_net_lossy.proofs.posting.post_all.Given as goal

abbrev pub invariant-loop-i : goal.invariant-loop-i
invariant-loop-i l = PostedUpTo (slice_index_or l.numbers l.i (length l.channels)) (is_from l.channels l.node true) l.buffers l.initial.posted.items l.posted.items
