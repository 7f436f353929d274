use Rattle.std.proofs.Common.{ℕ, ◌<◌, ◌≤◌}
use Rattle.lt_arch.specs.Readers.{tmin_of}
use Rattle.lt_sim.proofs.within.least_period.Given as goal

abbrev pub invariant-loop-node : goal.invariant-loop-node
invariant-loop-node l = record {
  some : 0 < l.least;
  lowest : (n : ℕ) → n < l.node → l.least ≤ tmin_of l.timing n;
}
