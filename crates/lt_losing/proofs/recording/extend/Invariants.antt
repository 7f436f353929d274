use Rattle.std.proofs.Common.{◌≡◌, ℕ, length}
use Rattle.lt_losing.specs.LossyRecorded.{LossyDrawingStarts}
use Rattle.lt_losing.proofs.Following.{LossyFollows}
use Rattle.lt_losing.proofs.recording.extend.Given as goal

abbrev pub invariant-loop-number : goal.invariant-loop-number
invariant-loop-number l = record {
  size : length l.events.items ≡ l._number;
  follows : (seed : ℕ) → LossyDrawingStarts l.fn.drawing l.shape l.timing seed → LossyFollows l.drawing l.shape l.timing l.limit l.rows l.rate seed l.horizon l.events.items;
}
