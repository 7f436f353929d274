use Rattle.std.proofs.Common.{length, take}
use Rattle.lt_graph.specs.Edges.{HasEdges}
use Rattle.lt_graph.proofs.circular.add_edges.Given as goal

abbrev pub invariant-loop-from : goal.invariant-loop-from
invariant-loop-from l = HasEdges (length l.fn.rows.items) (take l.from-index l.edges) l.rows.items
