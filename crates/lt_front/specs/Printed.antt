-- The canonical text of a program that passes all checks.
use Rattle.std.specs.Prelude.{◌≡◌, ℕ, List}
use Rattle.lt_base.specs.Program.{WholeProgram}
use Rattle.lt_base.specs.Typing.{TypedProgram}
use Rattle.lt_base.specs.Clocking.{ClockedProgram}
use Rattle.lt_base.specs.Dependence.{CausalProgram}
use Rattle.lt_syntax.specs.declared.tree.NodeText.{NodeText}
use Rattle.lt_print.specs.Canonical.{canonical}
use Rattle.lt_resolve.specs.Resolves.{IsResolved}
use Rattle.lt_answer.specs.Answered.{Verdict}
use Rattle.lt_answer.specs.Rules.{Shown}
use Rattle.lt_front.specs.declared.fault.ProgramFault.{ProgramFault}
use Rattle.lt_expand.specs.Expansion.{WithinLimits}
use Rattle.lt_front.specs.Examined.{ExaminedText, TreeNumbersFit}
use Rattle.lt_front.specs.Front.{examine_verdict}

-- the canonical text of its tree
abbrev pub canonical_text : ExaminedText → List ℕ
canonical_text c = canonical c.tree

-- the verdict of the checks, and of what passes them the canonical text
abbrev pub printed_verdict : List ℕ → Verdict (List ℕ) ProgramFault
printed_verdict bytes = Shown canonical_text (examine_verdict bytes)

-- the program that some tree names
pub record IsOfTree (p : WholeProgram) : Type 0 where
  pub tree : List NodeText
  pub room : TreeNumbersFit tree
  pub resolved : IsResolved tree p

-- the checks behind names hold
pub record IsPassing (p : WholeProgram) : Type 0 where
  pub typed : TypedProgram p
  pub clocked : ClockedProgram p
  pub causal : CausalProgram p
  pub within : WithinLimits p

-- the text is the canonical one of the tree, whose program passes all checks
pub record IsPassingText (t : List NodeText) (text : List ℕ) : Type 0 where
  pub program : WholeProgram
  pub resolved : IsResolved t program
  pub passing : IsPassing program
  pub same : text ≡ canonical t
