use Rattle.std.proofs.Common.{◌≡◌, map, take}
use Rattle.std.specs.List.{filter}
use Rattle.lt_net_node.specs.Layout.{joins}
use Rattle.lt_net_bench.proofs.literals.literals_between.Given as goal

abbrev pub invariant-loop-crossing : goal.invariant-loop-crossing
invariant-loop-crossing l = l.values.items ≡ map (λ cr. cr.first) (filter (joins l.from l.to) (take l.crossing-index l.cross))
