use Rattle.std.proofs.Common.{◌≡◌, take}
use Rattle.lt_resolve.specs.Scopes.{functions}
use Rattle.lt_resolve.proofs.taking.push_names.Given as goal

abbrev pub invariant-nodes : goal.invariant-nodes
invariant-nodes l = l.names.items ≡ functions (take l.node-index l.nodes)
