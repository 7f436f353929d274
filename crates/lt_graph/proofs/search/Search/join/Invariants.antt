use Rattle.std.proofs.Common.{◌<◌, ◌≤◌, ℕ, length, get_or}
use Rattle.lt_graph.proofs.search.Search.join.Given as goal

abbrev pub invariant-loop-kept : goal.invariant-loop-kept
invariant-loop-kept l = record {
  within : l.kept ≤ length l.self.starts.items;
  past : (k : ℕ) → l.kept ≤ k → k < length l.self.starts.items → l.at < get_or l.self.starts.items k 0;
}

abbrev pub decreases-loop-kept : goal.decreases-loop-kept
decreases-loop-kept l = l.kept
