-- What is right of a program's bytes: the checks one after another, of which the first that fails refuses.
use Rattle.std.specs.Prelude.{◌≡◌, ℕ, List, Ok, Err}
use Rattle.lt_base.specs.Program.{WholeProgram}
use Rattle.lt_base.specs.Typing.{TypedProgram}
use Rattle.lt_base.specs.Clocking.{ClockedProgram}
use Rattle.lt_base.specs.Dependence.{CausalProgram}
use Rattle.lt_base.specs.Limits.{greatest_height}
use Rattle.lt_base.specs.Sizes.{cut, program_weight, program_parts}
use Rattle.lt_syntax.specs.declared.tree.NodeText.{NodeText}
use Rattle.lt_syntax.specs.Program.{Spells}
use Rattle.lt_syntax.specs.Faults.{IsFault}
use Rattle.lt_resolve.specs.Resolves.{Resolves}
use Rattle.lt_check.specs.TypeFaults.{IsFirstTypeFault}
use Rattle.lt_check.specs.ClockFaults.{IsFirstClockFault}
use Rattle.lt_front.specs.declared.fault.ProgramFault.{ProgramFault}
use Rattle.lt_front.specs.declared.fault.ProgramFault.TheVariants as fault
use Rattle.lt_answer.specs.Answered.{Verdict, AndThen}
use Rattle.lt_answer.specs.Rules.{OfRule}
use Rattle.lt_expand.specs.Expansion.{WithinLimits}
use Rattle.lt_front.specs.Examined.{ExaminedText}
use Rattle.lt_front.specs.Causality.{IsFirstCycle}

-- the bytes spell a tree, or else no tree, and then the fault is at the first place that shows it
abbrev pub syntax_verdict : List ℕ → Verdict (List NodeText) ProgramFault
syntax_verdict bytes (Ok t) = Spells greatest_height bytes t
syntax_verdict bytes (Err (fault.Syntax f)) = ((t : List NodeText) → Spells greatest_height bytes t → ⊥) × IsFault greatest_height bytes f
syntax_verdict bytes (Err _) = ⊥

-- the tree names a program, or it has a fault of names or passes a limit on them
abbrev pub name_verdict : List NodeText → Verdict WholeProgram ProgramFault
name_verdict t (Ok p) = Resolves t (Ok p)
name_verdict t (Err (fault.Name f u)) = Resolves t (Err f) × (u ≡ t)
name_verdict t (Err _) = ⊥

abbrev pub IsTypeFault : List NodeText → WholeProgram → ProgramFault → Type 0
IsTypeFault t p (fault.Type f u) = IsFirstTypeFault p f × (u ≡ t)
IsTypeFault t p _ = ⊥

abbrev pub IsClockFault : List NodeText → WholeProgram → ProgramFault → Type 0
IsClockFault t p (fault.Clock f u) = IsFirstClockFault p f × (u ≡ t)
IsClockFault t p _ = ⊥

abbrev pub IsCycle : List NodeText → WholeProgram → ProgramFault → Type 0
IsCycle t p (fault.Cycle func cycle u) = IsFirstCycle p func cycle.vars × (u ≡ t)
IsCycle t p _ = ⊥

-- the sizes, each cut at the greatest number of 64 bits
abbrev pub IsTooManyFault : WholeProgram → ProgramFault → Type 0
IsTooManyFault p (fault.TooMany s) = (s.weight ≡ cut (program_weight p)) × (s.parts ≡ cut (program_parts p))
IsTooManyFault p _ = ⊥

-- the program within its limits
abbrev pub fits_verdict : List NodeText → WholeProgram → Verdict ExaminedText ProgramFault
fits_verdict t p (Ok c) = WithinLimits p × (c ≡ record { tree = t; program = p })
fits_verdict t p (Err e) = (WithinLimits p → ⊥) × IsTooManyFault p e

abbrev pub causal_verdict : List NodeText → WholeProgram → Verdict ExaminedText ProgramFault
causal_verdict t p = AndThen (OfRule (CausalProgram p) (IsCycle t p)) (λ _. fits_verdict t p)

abbrev pub clocked_verdict : List NodeText → WholeProgram → Verdict ExaminedText ProgramFault
clocked_verdict t p = AndThen (OfRule (ClockedProgram p) (IsClockFault t p)) (λ _. causal_verdict t p)

abbrev pub typed_verdict : List NodeText → WholeProgram → Verdict ExaminedText ProgramFault
typed_verdict t p = AndThen (OfRule (TypedProgram p) (IsTypeFault t p)) (λ _. clocked_verdict t p)

abbrev pub resolved_verdict : List NodeText → Verdict ExaminedText ProgramFault
resolved_verdict t = AndThen (name_verdict t) (λ p. typed_verdict t p)

-- syntax, names, types, clocks, causality and sizes
unfoldable pub examine_verdict : List ℕ → Verdict ExaminedText ProgramFault
examine_verdict bytes = AndThen (syntax_verdict bytes) (λ t. resolved_verdict t)
