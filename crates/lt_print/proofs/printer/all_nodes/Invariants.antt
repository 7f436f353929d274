use Rattle.std.proofs.Common.{◌≡◌, take}
use Rattle.lt_print.specs.Canonical.{canonical}
use Rattle.lt_print.proofs.printer.all_nodes.Given as goal

abbrev pub invariant-nodes : goal.invariant-nodes
invariant-nodes l = l.out ≡ canonical (take l.n-index l.ns)
