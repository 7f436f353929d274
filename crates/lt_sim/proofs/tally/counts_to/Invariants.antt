use Rattle.std.proofs.Common.{◌≡◌, ◌<◌, ℕ, length, slice_index_or}
use Rattle.lt_arch.specs.Readers.{chan_count}
use Rattle.lt_base.specs.Truths.{how_many}
use Rattle.lt_sim.specs.Tallies.{leads_kind_to}
use Rattle.lt_sim.proofs.tally.counts_to.Given as goal

abbrev pub invariant-loop-node : goal.invariant-loop-node
invariant-loop-node l = record {
  size : length l.counts.items ≡ l.node;
  each : (n : ℕ) → n < l.node → slice_index_or l.counts.items n 0 ≡ how_many (leads_kind_to l.shape.channels l.data_kind n) (chan_count l.shape);
}
