use Rattle.std.proofs.Common.{◌≡◌, ◌<◌, ◌≤◌, ◌++◌, ◌∷◌, [], ℕ, length, get_or}
use Rattle.lt_base.specs.declared.value.Cell.TheVariants.{Absent}
use Rattle.lt_evaluate.proofs.columns.push_cells.Given as goal

abbrev pub invariant-loop-i : goal.invariant-loop-i
invariant-loop-i l = record {
  size : length l.columns.items ≡ length l.fn.columns.items;
  put : (x : ℕ) → x < l.i → get_or l.columns.items x [] ≡ get_or l.fn.columns.items x [] ++ get_or l.cells x Absent ∷ [];
  rest : (x : ℕ) → l.i ≤ x → get_or l.columns.items x [] ≡ get_or l.fn.columns.items x [];
}
