use Rattle.std.proofs.Common.{◌≡◌, ◌<◌, ℕ, length, get_or}
use Rattle.lt_graph.specs.Search.{mark}
use Rattle.lt_graph.specs.declared.search.Mark.TheVariants.{Done}
use Rattle.lt_graph.proofs.strong.names.Given as goal

abbrev pub invariant-loop-number : goal.invariant-loop-number
invariant-loop-number l = record {
  size : length l.names.items ≡ l.number;
  done : (x : ℕ) → x < l.number → mark l.marks.items x ≡ Done (get_or l.names.items x 0);
}
