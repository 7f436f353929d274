-- No channel before this one is off.
use Rattle.std.proofs.Common.{◌≡◌, ◌<◌, ℕ, false, map, length, slice_index_or}
use Rattle.lt_audit.specs.Audit.{kept_of}
use Rattle.lt_audit.specs.Acts.{is_off}
use Rattle.lt_audit.proofs.missing.lowest_off.Given as goal

abbrev pub invariant-loop-number : goal.invariant-loop-number
invariant-loop-number l = (c : ℕ) → c < slice_index_or l.numbers l.number-index (length l.wiring.channels) → is_off l.wiring.channels (map kept_of l.lines) l.node l.executed c ≡ false
