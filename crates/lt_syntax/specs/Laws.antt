-- The law of the grammar.
use Rattle.std.specs.Prelude.{ℕ, ◌≤◌, ◌≡◌, List}
use Rattle.lt_syntax.specs.declared.tree.NodeText.{NodeText}
use Rattle.lt_syntax.specs.Program.{Spells}

-- at most one tree is spelled by given bytes
abbrev pub OneTree : Type 0
OneTree = (limit : ℕ) → 1 ≤ limit → (bytes : List ℕ) (t u : List NodeText) → Spells limit bytes t → Spells limit bytes u → t ≡ u
