use Rattle.std.proofs.Common.{◌≡◌, ℕ, List, [], replicate}
use Rattle.lt_losing.proofs.drawing.empty_queues.Given as goal

abbrev pub invariant-loop-channel : goal.invariant-loop-channel
invariant-loop-channel l = l.queues.items ≡ replicate {A = List ℕ} l._channel []
