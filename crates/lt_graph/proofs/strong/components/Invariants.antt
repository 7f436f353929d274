use Rattle.std.proofs.Common.{◌≡◌, ◌<◌, ℕ, []}
use Rattle.lt_graph.specs.Search.{SearchStands, IsMet, mark}
use Rattle.lt_graph.proofs.strong.components.Given as goal

abbrev pub invariant-loop-root : goal.invariant-loop-root
invariant-loop-root l = record {
  stands : SearchStands l.table l.search;
  idle : l.search.path.items ≡ [];
  met : (x : ℕ) → x < l.root → IsMet (mark l.search.marks.items x);
}
