use Rattle.std.proofs.Common.{◌≡◌}
use Rattle.lt_net_node.specs.Channels.{has_channel, chans_from}
use Rattle.lt_net_node.proofs.shaping.add_from.Given as goal

abbrev pub invariant-loop-to : goal.invariant-loop-to
invariant-loop-to l = l.channels ≡ chans_from (has_channel l.cross l.protocol) l.kind l.from l.to l.initial.channels
