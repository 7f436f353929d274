use Rattle.std.proofs.Common.{◌≡◌, replicate}
use Rattle.lt_lossy_audit.specs.Nodes.{nothing_seen}
use Rattle.lt_lossy_audit.proofs.audit.nodes_of.Given as goal

abbrev pub invariant-loop-node : goal.invariant-loop-node
invariant-loop-node l = l.nodes.items ≡ replicate l._node nothing_seen
