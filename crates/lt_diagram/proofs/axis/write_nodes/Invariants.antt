use Rattle.std.proofs.Common.{◌≡◌, ◌++◌, drop}
use Rattle.lt_diagram.specs.Axis.{nodes_from}
use Rattle.lt_diagram.proofs.axis.write_nodes.Given as goal

abbrev pub invariant-names : goal.invariant-names
invariant-names l = l.out ++ nodes_from l.chart l.k (drop l.k l.names) ≡ l.initial.out ++ nodes_from l.chart 0 l.names
