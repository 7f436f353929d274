use Rattle.std.proofs.Common.{◌≡◌, ◌<◌, ℕ, false, length, get_or}
use Rattle.std.specs.Prelude.{MatchBool}
use Rattle.lt_base.specs.Meaning.{clock_of}
use Rattle.lt_check.specs.Innermost.{Linked}
use Rattle.lt_check.proofs.innermost.links.Given as goal

abbrev pub invariant-loop-decl : goal.invariant-loop-decl
invariant-loop-decl l = record {
  size : length l.table.items ≡ l.decl-index;
  tells : (x : ℕ) → x < l.decl-index → MatchBool (get_or l.table.items x false) (Linked l.decls (clock_of l.decls x)) (Linked l.decls (clock_of l.decls x) → ⊥);
}
