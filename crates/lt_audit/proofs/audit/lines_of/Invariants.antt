-- Nothing is on the channels so far.
use Rattle.std.proofs.Common.{◌≡◌, map, replicate}
use Rattle.lt_audit.specs.Audit.{kept_of, no_chan_state}
use Rattle.lt_audit.proofs.audit.lines_of.Given as goal

abbrev pub invariant-loop-channel : goal.invariant-loop-channel
invariant-loop-channel l = map kept_of l.lines.items ≡ replicate l._channel no_chan_state
