use Rattle.std.proofs.Common.{◌≡◌, take}
use Rattle.lt_c_node.specs.NodeOf.{sources_of}
use Rattle.lt_c_node.proofs.part.sources_of.Given as goal

abbrev pub invariant-feeds : goal.invariant-feeds
invariant-feeds l = l.all ≡ sources_of l.layout (take l.x l.feeds)
