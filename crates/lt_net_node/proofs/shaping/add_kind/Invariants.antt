use Rattle.std.proofs.Common.{◌≡◌}
use Rattle.lt_net_node.specs.Channels.{has_channel, chans_below}
use Rattle.lt_net_node.proofs.shaping.add_kind.Given as goal

abbrev pub invariant-loop-from : goal.invariant-loop-from
invariant-loop-from l = l.channels ≡ chans_below (has_channel l.cross l.protocol) l.kind l.nodes l.from l.initial.channels
