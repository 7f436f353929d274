use Rattle.std.proofs.Common.{◌≡◌, ◌≤◌, ℕ, length, take}
use Rattle.lt_graph.specs.Search.{closed_mark, mark}
use Rattle.lt_graph.proofs.search.Search.close.Given as goal

abbrev pub invariant-loop-self : goal.invariant-loop-self
invariant-loop-self l = record {
  size : length l.self.marks.items ≡ length l.fn.self.marks.items;
  marks : (x : ℕ) → mark l.self.marks.items x ≡ closed_mark (length l.self.stack.items) l.name (mark l.fn.self.marks.items x);
  rest : l.self.rest ≡ l.fn.self.rest;
  low : l.place ≤ length l.self.stack.items;
  high : length l.self.stack.items ≤ length l.fn.self.stack.items;
  stack : l.self.stack.items ≡ take (length l.self.stack.items) l.fn.self.stack.items;
  starts : l.self.starts ≡ l.fn.self.starts;
  path : l.self.path ≡ l.fn.self.path;
}

abbrev pub decreases-loop-self : goal.decreases-loop-self
decreases-loop-self l = length l.self.stack.items
