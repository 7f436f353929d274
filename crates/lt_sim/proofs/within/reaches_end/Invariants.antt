use Rattle.std.proofs.Common.{ℕ}
use Rattle.lt_sim.specs.Standing.{DrawingStarts}
use Rattle.lt_sim.proofs.Following.{Passes}
use Rattle.lt_sim.proofs.within.reaches_end.Given as goal

abbrev pub invariant-loop-number : goal.invariant-loop-number
invariant-loop-number l = (seed : ℕ) → DrawingStarts l.fn.drawing l.shape l.timing seed → Passes l.drawing l.shape l.timing l.rows seed l.horizon l._number
