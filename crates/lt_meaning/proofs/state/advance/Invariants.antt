use Rattle.std.proofs.Common.{◌≡◌, ◌<◌, ℕ, Some, length}
use Rattle.std.specs.Prelude.{slice_get}
use Rattle.lt_base.specs.Meaning.{entry}
use Rattle.lt_meaning.specs.declared.plan.Delay.{Delay}
use Rattle.lt_meaning.specs.Plan.{next_kept}
use Rattle.lt_meaning.proofs.state.advance.Given as goal

abbrev pub invariant-loop-j : goal.invariant-loop-j
invariant-loop-j l = record {
  size : length l.next.items ≡ length l.fn.next.items;
  next : (j : ℕ) (d : Delay) → j < l.j → slice_get l.delays j ≡ Some d → entry l.next.items j ≡ next_kept (entry l.cells) (entry l.kept) d j;
}
