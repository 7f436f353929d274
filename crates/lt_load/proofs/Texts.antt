-- The text of what a step reads, and its flat form, where an earlier step may refuse.
use Rattle.std.proofs.Common.{ℕ, List, Result, Ok, Err, inl, inr}
use Rattle.lt_answer.specs.Answered.{Verdict, AndThen}
use Rattle.lt_answer.specs.Rules.{Raised, Shown}
use Rattle.lt_front.specs.Checked.{CheckedText, front_verdict}
use Rattle.lt_front.specs.Front.{examine_verdict}
use Rattle.lt_front.specs.declared.fault.ProgramFault.{ProgramFault}
use Rattle.lt_load_fit.specs.declared.fault.CommandFault.{CommandFault}
use Rattle.lt_load.specs.Loaded.{Flattened}

module _ {T U E G : Type 0} (raise : E → G) (shown : U → List ℕ) (V : Verdict T G) (next : T → Verdict U E) where
  -- the text of the second step's value is that of both
  pub shown_then : (o : Result (List ℕ) G) → AndThen V (λ x. Raised raise (Shown shown (next x))) o → Shown shown (AndThen V (λ x. Raised raise (next x))) o
  shown_then (Ok text) (inl none) = absurd none
  shown_then (Ok text) (inr q) = (q.2.0, inr (q.0, q.1, q.2.1), q.2.2)
  shown_then (Err e) (inl refused) = inl refused
  shown_then (Err e) (inr q) = inr (q.0, q.1, q.2)

-- the flat form of bytes that an earlier step gives
pub flat_then : (raise : ProgramFault → CommandFault) (V : Verdict (List ℕ) CommandFault) (o : Result CheckedText CommandFault) → AndThen V (λ bytes. Raised raise (front_verdict bytes)) o
    → Flattened (AndThen V (λ bytes. Raised raise (examine_verdict bytes))) o
flat_then raise V (Ok c) (inl none) = absurd none
flat_then raise V (Ok c) (inr q) = inr (q.0, q.1, q.2.0)
flat_then raise V (Err e) (inl refused) = inl refused
flat_then raise V (Err e) (inr q) = inr (q.0, q.1, q.2)
