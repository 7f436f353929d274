-- The law of the canonical text.
use Rattle.std.specs.Prelude.{ℕ, List}
use Rattle.lt_base.specs.Limits.{greatest_height}
use Rattle.lt_syntax.specs.declared.tree.NodeText.{NodeText}
use Rattle.lt_syntax.specs.Program.{Spells}
use Rattle.lt_print.specs.Canonical.{canonical}

-- the canonical text of a tree that some bytes spell spells that tree
abbrev pub CanonicalSpells : Type 0
CanonicalSpells = (bytes : List ℕ) (t : List NodeText) → Spells greatest_height bytes t → Spells greatest_height (canonical t) t
