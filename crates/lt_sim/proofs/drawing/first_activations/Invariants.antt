use Rattle.std.proofs.Common.{◌≡◌, ◌+◌, ℕ, length}
use Rattle.rand_core.specs.Steps.{stream_of}
use Rattle.rand_xoshiro.specs.SplitMix64.{splitmix_steps}
use Rattle.lt_arch.specs.Readers.{chan_count, node_count}
use Rattle.lt_sim.specs.Words.{left_after}
use Rattle.lt_sim.proofs.Nexts.{HasFirst}
use Rattle.lt_sim.proofs.drawing.first_activations.Given as goal

abbrev pub invariant-loop-node : goal.invariant-loop-node
invariant-loop-node l = record {
  size : length l.pending ≡ node_count l.shape + chan_count l.shape;
  left : (seed : ℕ) → stream_of splitmix_steps l.fn.generator ≡ left_after seed 0 → stream_of splitmix_steps l.generator ≡ left_after seed l.node;
  first : (seed : ℕ) → stream_of splitmix_steps l.fn.generator ≡ left_after seed 0 → HasFirst l.timing seed (node_count l.shape + chan_count l.shape) l.node l.pending;
}
