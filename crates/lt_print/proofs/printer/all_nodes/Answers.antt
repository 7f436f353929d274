use Rattle.std.proofs.Common.{[]}
use Rattle.lt_print.specs.Canonical.{canonical, node_layout}
use Rattle.lt_print.proofs.Printing.{next, canonical_snoc}
use Rattle.lt_print.proofs.printer.all_nodes.Goals as goal

pub nodes-preserved : goal.nodes-preserved
nodes-preserved c = next canonical node_layout canonical_snoc [] c.nodes.out c.node.new.out c.args.ns.now c.nodes.n-index c.n-item.result c.nodes-test.true c.n-item.is c.nodes.invariant c.in_ok-node.ensures
