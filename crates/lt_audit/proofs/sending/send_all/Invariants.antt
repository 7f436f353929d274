-- A message was sent on each channel before this one on which the deed sends.
use Rattle.std.proofs.Common.{length, slice_index_or}
use Rattle.lt_audit.specs.Acts.{SentBelow, is_sent_on, audited_chan}
use Rattle.lt_audit.proofs.sending.send_all.Given as goal

abbrev pub invariant-loop-number : goal.invariant-loop-number
invariant-loop-number g l = SentBelow (λ c. is_sent_on l.protocol l.node l.deed (audited_chan l.channels c)) l.at (slice_index_or l.numbers l.number-index (length l.channels)) l.fn.lines.items l.lines.items l.fn.watch l.watch
