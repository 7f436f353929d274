use Rattle.std.proofs.Common.{◌≡◌}
use Rattle.std.specs.Prelude.{replicate}
use Rattle.lt_graph.specs.declared.search.Mark.TheVariants.{New}
use Rattle.lt_graph.proofs.search.new_marks.Given as goal

abbrev pub invariant-loop-number : goal.invariant-loop-number
invariant-loop-number l = l.marks.items ≡ replicate l._number New
