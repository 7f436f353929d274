-- Which verdicts leave one refusal.
use Rattle.std.proofs.Common.{◌≡◌, ℕ, List, Option, Some, None, Result, Ok, Err, sym, ap, ◌∙◌, subst, inl, inr}
use Rattle.lt_answer.specs.Answered.{Verdict, AndThen, OfFile, OfForm}

-- at most one fault is right, and then no value is
pub record HasOneFault {T E : Type 0} (V : Verdict T E) : Type 0 where
  pub one_fault : (e f : E) → V (Err e) → V (Err f) → e ≡ f
  pub not_both : (e : E) (x : T) → V (Err e) → V (Ok x) → ⊥

-- and at most one value is right
pub record HasOneOutcome {T E : Type 0} (V : Verdict T E) : Type 0 where
  pub faults : HasOneFault V
  pub one_value : (x y : T) → V (Ok x) → V (Ok y) → x ≡ y

pub of_form : {T E : Type 0} (Form : T → Type 0) (refusal : E) → ((x y : T) → Form x → Form y → x ≡ y) → HasOneOutcome (OfForm Form refusal)
of_form Form refusal one = record {
  faults = record { one_fault = λ e f p q. p.0 ∙ sym q.0; not_both = λ e x p form. p.1 x form };
  one_value = one;
}

abbrev error_or : {T E : Type 0} → E → Result T E → E
error_or d (Ok x) = d
error_or d (Err e) = e

pub of_file : {T E : Type 0} (missing : E) (file : Option (List ℕ)) (V : List ℕ → Verdict T E) → ((bytes : List ℕ) → HasOneOutcome (V bytes)) → HasOneOutcome (OfFile missing file V)
of_file missing None V one = record {
  faults = record { one_fault = λ e f p q. ap (error_or missing) p ∙ sym (ap (error_or missing) q); not_both = λ e x p q. cc };
  one_value = λ x y p q. cc;
}
of_file missing (Some bytes) V one = one bytes

-- two steps
and_then_fault : {T U E : Type 0} (V : Verdict T E) (next : T → Verdict U E) → HasOneOutcome V → ((x : T) → HasOneFault (next x)) → (e f : E) → AndThen V next (Err e) → AndThen V next (Err f) → e ≡ f
and_then_fault V next first second e f (inl p) (inl q) = first.faults.one_fault e f p q
and_then_fault V next first second e f (inl p) (inr q) = absurd (first.faults.not_both e q.0 p q.1)
and_then_fault V next first second e f (inr p) (inl q) = absurd (first.faults.not_both f p.0 q p.1)
and_then_fault V next first second e f (inr p) (inr q) =
    (second q.0).one_fault e f (subst (λ x. next x (Err e)) (first.one_value p.0 q.0 p.1 q.1) p.2) q.2

and_then_both : {T U E : Type 0} (V : Verdict T E) (next : T → Verdict U E) → HasOneOutcome V → ((x : T) → HasOneFault (next x)) → (e : E) (u : U) → AndThen V next (Err e) → AndThen V next (Ok u) → ⊥
and_then_both V next first second e u p (inl q) = q
and_then_both V next first second e u (inl p) (inr q) = first.faults.not_both e q.0 p q.1
and_then_both V next first second e u (inr p) (inr q) =
    (second q.0).not_both e u (subst (λ x. next x (Err e)) (first.one_value p.0 q.0 p.1 q.1) p.2) q.2

pub and_then : {T U E : Type 0} (V : Verdict T E) (next : T → Verdict U E) → HasOneOutcome V → ((x : T) → HasOneFault (next x)) → HasOneFault (AndThen V next)
and_then V next first second = record { one_fault = and_then_fault V next first second; not_both = and_then_both V next first second }
