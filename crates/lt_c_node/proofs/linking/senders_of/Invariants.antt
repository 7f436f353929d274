use Rattle.std.proofs.Common.{take}
use Rattle.lt_c_node.specs.NodeOf.{AreSenders}
use Rattle.lt_c_node.proofs.linking.senders_of.Given as goal

abbrev pub invariant-channels : goal.invariant-channels
invariant-channels l = AreSenders l.layout (take l.channel-index l.channels) l.n l.all
