use Rattle.std.proofs.Common.{◌≡◌, map, take}
use Rattle.std.specs.List.{filter}
use Rattle.lt_net_node.specs.Layout.{joins}
use Rattle.lt_c_node.specs.NodeOf.{carried}
use Rattle.lt_c_node.proofs.linking.carried_among.Given as goal

abbrev pub invariant-crossings : goal.invariant-crossings
invariant-crossings l = l.all ≡ map (carried l.layout) (filter (joins l.i l.j) (take l.crossing-index l.cross))
