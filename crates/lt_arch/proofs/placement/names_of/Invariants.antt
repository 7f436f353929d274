use Rattle.std.proofs.Common.{◌≡◌, ◌++◌, drop}
use Rattle.lt_arch.specs.NodeNames.{names_of}
use Rattle.lt_arch.proofs.placement.names_of.Given as goal

abbrev pub invariant-loop-node : goal.invariant-loop-node
invariant-loop-node l = names_of l.nodes ≡ l.names ++ names_of (drop l.node-index l.nodes)
