use Rattle.std.proofs.Common.{◌+◌, ◌*◌, ℕ, length}
use Rattle.std.specs.List.{sum}
use Rattle.lt_graph.specs.Search.{SearchStands, IsMet, mark}
use Rattle.lt_graph.proofs.search.Search.follow.Given as goal

abbrev pub invariant-loop-self : goal.invariant-loop-self
invariant-loop-self l = record {
  stands : SearchStands l.table l.self;
  met : (x : ℕ) → IsMet (mark l.fn.self.marks.items x) → IsMet (mark l.self.marks.items x);
}

abbrev pub decreases-loop-self : goal.decreases-loop-self
decreases-loop-self l = 2 * sum l.self.rest.items + length l.self.path.items
