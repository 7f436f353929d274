use Rattle.std.proofs.Common.{◌≡◌, ◌<◌, ◌+◌, ℕ, []}
use Rattle.std.specs.List.{sum_by, sum}
use Rattle.lt_cause.specs.declared.sorting.Mark.TheVariants.{New, Done}
use Rattle.lt_cause.proofs.Search.{Sorting, mark, weight}
use Rattle.lt_cause.proofs.sorting.topological_order.Given as goal

abbrev pub invariant-loop-root : goal.invariant-loop-root
invariant-loop-root l = record {
  sorting : Sorting l.table l.marks.items l.rest.items [] l.order.items;
  empty : l.path.items ≡ [];
  before : (x : ℕ) → x < l.root → mark l.marks.items x ≡ Done;
}

abbrev pub invariant-loop-x : goal.invariant-loop-x
invariant-loop-x l = record {
  sorting : Sorting l.table l.marks.items l.rest.items l.path.items l.order.items;
  before : (x : ℕ) → x < l.root → mark l.marks.items x ≡ Done;
  started : mark l.marks.items l.root ≡ New → ⊥;
}

abbrev pub decreases-loop-x : goal.decreases-loop-x
decreases-loop-x l = sum_by weight l.marks.items + sum l.rest.items
