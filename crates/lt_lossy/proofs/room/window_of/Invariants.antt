use Rattle.std.proofs.Common.{◌≢◌, ℕ, ◌<◌}
use Rattle.lt_lossy.specs.Window.{IsInWindow}
use Rattle.lt_lossy.proofs.room.window_of.Given as goal

abbrev pub invariant-loop-other : goal.invariant-loop-other
invariant-loop-other l = (j : ℕ) → j < l.other → l.node ≢ j → IsInWindow l.timing l.node j
