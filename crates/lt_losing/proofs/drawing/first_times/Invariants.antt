use Rattle.std.proofs.Common.{◌≡◌, ℕ}
use Rattle.rand_core.specs.Steps.{stream_of}
use Rattle.rand_xoshiro.specs.SplitMix64.{splitmix_steps}
use Rattle.lt_sim.specs.Words.{left_after}
use Rattle.lt_losing.specs.Held.{HasFirstTimes}
use Rattle.lt_losing.proofs.drawing.first_times.Given as goal

abbrev pub invariant-loop-node : goal.invariant-loop-node
invariant-loop-node l = record {
  left : (seed : ℕ) → stream_of splitmix_steps l.fn.generator ≡ left_after seed 0 → stream_of splitmix_steps l.generator ≡ left_after seed l.node;
  times : (seed : ℕ) → stream_of splitmix_steps l.fn.generator ≡ left_after seed 0 → HasFirstTimes l.timing seed l.node l.times.items;
}
