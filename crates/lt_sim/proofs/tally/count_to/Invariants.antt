use Rattle.std.proofs.Common.{◌≡◌, ◌≤◌}
use Rattle.lt_base.specs.Truths.{how_many}
use Rattle.lt_sim.specs.Tallies.{leads_kind_to}
use Rattle.lt_sim.proofs.tally.count_to.Given as goal

abbrev pub invariant-loop-channel : goal.invariant-loop-channel
invariant-loop-channel l = record { count : l.count ≡ how_many (leads_kind_to l.channels l.data_kind l.node) l.channel-index; few : l.count ≤ l.channel-index }
