use Rattle.std.proofs.Common.{◌≡◌, ◌<◌, ◌≤◌, ◌++◌, ◌∷◌, [], ℕ, length, get_or}
use Rattle.lt_base.specs.Meaning.{entry}
use Rattle.lt_meaning.specs.Ready.{cell_at_place}
use Rattle.lt_meaning.proofs.showing.show.Given as goal

abbrev pub invariant-loop-i : goal.invariant-loop-i
invariant-loop-i l = record {
  size : length l.columns.items ≡ length l.fn.columns.items;
  put : (x : ℕ) → x < l.i → get_or l.columns.items x [] ≡ get_or l.fn.columns.items x [] ++ cell_at_place l.decls (entry l.cells) l.variables x ∷ [];
  rest : (x : ℕ) → l.i ≤ x → get_or l.columns.items x [] ≡ get_or l.fn.columns.items x [];
}
