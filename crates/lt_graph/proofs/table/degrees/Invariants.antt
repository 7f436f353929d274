use Rattle.std.proofs.Common.{◌≡◌, map, length, take}
use Rattle.lt_graph.proofs.table.degrees.Given as goal

abbrev pub invariant-loop-list : goal.invariant-loop-list
invariant-loop-list l = l.rest.items ≡ map length (take l.list-index l.list-items)
