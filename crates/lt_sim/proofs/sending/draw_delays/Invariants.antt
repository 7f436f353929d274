use Rattle.std.proofs.Common.{◌≡◌, ◌+◌, ◌≤◌, ℕ, length}
use Rattle.rand_core.specs.Steps.{stream_of}
use Rattle.rand_xoshiro.specs.SplitMix64.{splitmix_steps}
use Rattle.lt_arch.specs.Readers.{chan_count, node_count}
use Rattle.lt_sim.specs.Words.{left_after}
use Rattle.lt_base.specs.Truths.{how_many}
use Rattle.lt_sim.specs.Tallies.{leads_kind_from}
use Rattle.lt_sim.specs.Spans.{DrawsDelays}
use Rattle.lt_sim.proofs.sending.draw_delays.Given as goal

abbrev pub invariant-loop-c : goal.invariant-loop-c
invariant-loop-c l = record {
  places : length l.pending ≡ node_count l.shape + chan_count l.shape;
  near : l.c ≤ chan_count l.shape;
  left : (seed words : ℕ) → stream_of splitmix_steps l.fn.generator ≡ left_after seed words → stream_of splitmix_steps l.generator ≡ left_after seed (words + how_many (leads_kind_from l.shape.channels l.data_kind l.node) l.c);
  drawn : (seed words : ℕ) → stream_of splitmix_steps l.fn.generator ≡ left_after seed words → DrawsDelays l.shape l.timing seed words l.at l.c (leads_kind_from l.shape.channels l.data_kind l.node) l.fn.pending l.pending;
}
