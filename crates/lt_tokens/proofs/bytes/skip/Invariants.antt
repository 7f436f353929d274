use Rattle.std.proofs.Common.{◌≡◌, ◌≤◌, length, cond}
use Rattle.lt_tokens.specs.Text as text
use Rattle.lt_tokens.proofs.bytes.skip.Given as goal

abbrev pub invariant-bytes : goal.invariant-bytes
invariant-bytes l = (length l.rest ≤ length l.fn.bytes) × (cond l.in_comment (text.skip_comment l.rest) (text.skip l.rest) ≡ text.skip l.fn.bytes)

abbrev pub decreases-bytes : goal.decreases-bytes
decreases-bytes l = length l.rest
