use Rattle.std.proofs.Common.{take}
use Rattle.lt_c_node.specs.NodeOf.{AreReceivers}
use Rattle.lt_c_node.proofs.linking.receivers_of.Given as goal

abbrev pub invariant-channels : goal.invariant-channels
invariant-channels l = AreReceivers l.layout (take l.channel-index l.channels) l.n l.all
