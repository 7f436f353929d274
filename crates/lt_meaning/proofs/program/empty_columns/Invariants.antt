use Rattle.std.proofs.Common.{◌≡◌, [], ℕ, length, get_or}
use Rattle.lt_meaning.proofs.program.empty_columns.Given as goal

abbrev pub invariant-loop-column : goal.invariant-loop-column
invariant-loop-column l = record {
  number : length l.columns.items ≡ l._column;
  empty : (x : ℕ) → get_or l.columns.items x [] ≡ [];
}
