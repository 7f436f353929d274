use Rattle.std.proofs.Common.{◌≢◌, ℕ, ◌<◌, length}
use Rattle.lt_lossy.specs.Window.{IsInWindow}
use Rattle.lt_lossy.proofs.room.window.Given as goal

abbrev pub invariant-loop-node : goal.invariant-loop-node
invariant-loop-node l = (i j : ℕ) → i < l.node → j < length l.timing.nodes → i ≢ j → IsInWindow l.timing i j
