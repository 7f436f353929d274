-- The messages stay, and there is room on each channel before this one.
use Rattle.std.proofs.Common.{length, slice_index_or}
use Rattle.lt_link.specs.Ports.{is_from}
use Rattle.lt_audit.specs.Acts.{SameLines, HasRoomOn}
use Rattle.lt_audit.proofs.sending.make_room_on.Given as goal

abbrev pub invariant-loop-number : goal.invariant-loop-number
invariant-loop-number l =
    SameLines l.fn.lines.items l.lines.items × HasRoomOn (is_from l.wiring.channels l.node l.kind) l.lines.items (slice_index_or l.numbers l.number-index (length l.wiring.channels))
