-- The canonical text of a program that passes all checks.
use Rattle.std.proofs.Common.{◌≡◌, ℕ, Bool, false, List, Option, Some, None, Result, Ok, Err, refl, ◌∙◌, inr, IfOk}
use Rattle.std.specs.Prelude.{◌↔◌, IsTrue, IfSome}
use Rattle.lt_base.specs.declared.memory.Memory.{Memory}
use Rattle.lt_base.specs.Program.{WholeProgram}
use Rattle.lt_base.specs.Dependence.{CausalProgram}
use Rattle.lt_syntax.specs.declared.tree.NodeText.{NodeText}
use Rattle.lt_syntax.specs.Program.{Spells}
use Rattle.lt_print.specs.Canonical.{canonical}
use Rattle.lt_check.specs.Fitting.{IsRightProgram}
use Rattle.lt_resolve.specs.Resolves.{IsResolved}
use Rattle.lt_answer.specs.Answered.{Settles}
use Rattle.lt_expand.specs.Expansion.{WithinLimits}
use Rattle.lt_front.specs.Examined.{ExaminedText}
use Rattle.lt_front.specs.Front.{examine_verdict}
use Rattle.lt_front.specs.Printed.{printed_verdict, IsPassing, IsPassingText}

passes : (bytes : List ℕ) (t : List NodeText) → Spells 200 bytes t → (text : List ℕ) → IsPassingText t text → Settles (printed_verdict bytes) (Ok text)
unfolding examine_verdict
passes bytes t spelled text h = (
  record { tree = t; program = h.program },
  inr (t, spelled, inr (h.program, h.resolved, inr (tt, h.passing.typed, inr (tt, h.passing.clocked, inr (tt, h.passing.causal, (h.passing.within, refl)))))),
  h.same,
)

-- the text of a tree that the bytes spell is right
pub text_settles : (bytes : List ℕ) (t : List NodeText) → Spells 200 bytes t → (r : Result (Option (List ℕ)) Memory) → IfOk r (λ o. IfSome o (IsPassingText t)) → IfOk r (λ o. IfSome o (λ text. Settles (printed_verdict bytes) (Ok text)))
text_settles bytes t spelled (Ok None) h = tt
text_settles bytes t spelled (Ok (Some text)) h = passes bytes t spelled text h
text_settles bytes t spelled (Err m) h = tt

-- the text of a tree, whose program passes
pub tree_passes : (t : List NodeText) (p : WholeProgram) → IsResolved t p → (text : List ℕ) → text ≡ canonical t → (r : Result (Option (List ℕ)) Memory) → IfOk r (λ o. IfSome o (λ shown. IsPassing p × (shown ≡ text))) → IfOk r (λ o. IfSome o (IsPassingText t))
tree_passes t p resolved text same (Ok None) h = tt
tree_passes t p resolved text same (Ok (Some shown)) h = record { program = p; resolved = resolved; passing = h.0; same = h.1 ∙ same }
tree_passes t p resolved text same (Err m) h = tt

-- the text of a program that was examined
pub examined_settles : (bytes : List ℕ) (c : ExaminedText) (text : List ℕ) → Settles (examine_verdict bytes) (Ok c) → text ≡ canonical c.tree → Settles (printed_verdict bytes) (Ok text)
examined_settles bytes c text right same = (c, right, same)

-- a check that failed
pub fails : (P : Type 0) → (P → ⊥) → IsTrue false ↔ P
fails P never = (λ t. absurd (cc), λ h. absurd (never h))

-- causality and sizes are all that is left of a program with right types and clocks
pub all_pass : (p : WholeProgram) → IsRightProgram p → (r : Result Bool Memory) → IfOk r (λ b. IsTrue b ↔ (CausalProgram p × WithinLimits p)) → IfOk r (λ b. IsTrue b ↔ IsPassing p)
all_pass p right (Ok b) h =
    (λ t. let k = h.0 t in record { typed = λ n f l. (right n f l).0; clocked = λ n f l. (right n f l).1; causal = k.0; within = k.1 }, λ k. h.1 (k.causal, k.within))
all_pass p right (Err m) h = tt

-- a wrong type or clock
pub not_right : (p : WholeProgram) → (IsRightProgram p → ⊥) → IsTrue false ↔ IsPassing p
not_right p never = fails (IsPassing p) (λ h. never (λ n f l. (h.typed n f l, h.clocked n f l)))
