use Rattle.lt_diagram.specs.Axis.{drawn_nodes}
use Rattle.lt_diagram.proofs.Going.{nodes_on, nodes_end}
use Rattle.lt_diagram.proofs.axis.write_nodes.Goals as goal

pub names-preserved : goal.names-preserved
names-preserved c = nodes_on c.args.chart.now c.args.names.now c.names.k c.index-names-k.result c.names.out c.write_place.new.out _ c.names-test.true c.index-names-k.is c.names.invariant c.in_ok-write_place.ensures

pub returns : goal.returns
unfolding drawn_nodes
returns c = nodes_end c.args.chart.now c.args.names.now c.names.k c.names.out _ c.names-test.false c.names.invariant
