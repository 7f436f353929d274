-- Which verdicts leave one refusal, up to its kind.
use Rattle.std.proofs.Common.{◌≡◌, ◌∙◌, ℕ, List, Option, Some, None, Result, Ok, Err, refl, sym, ap, subst, inl, inr}
use Rattle.lt_answer.specs.Answered.{Verdict, AndThen, OfForm, OfFile}
use Rattle.lt_answer.specs.Rules.{OfRule, Exactly, Raised}

-- all right faults are of one kind, and then no value is right
pub record HasOneKind {T E K : Type 0} (kind : E → K) (V : Verdict T E) : Type 0 where
  pub one_kind : (e f : E) → V (Err e) → V (Err f) → kind e ≡ kind f
  pub not_both : (e : E) (x : T) → V (Err e) → V (Ok x) → ⊥

-- and at most one value is right
pub record HasOneOutcome {T E K : Type 0} (kind : E → K) (V : Verdict T E) : Type 0 where
  pub faults : HasOneKind kind V
  pub one_value : (x y : T) → V (Ok x) → V (Ok y) → x ≡ y

pub of_form : {T E K : Type 0} (kind : E → K) (Form : T → Type 0) (refusal : E) → ((x y : T) → Form x → Form y → x ≡ y) → HasOneOutcome kind (OfForm Form refusal)
of_form kind Form refusal one = record {
  faults = record { one_kind = λ e f p q. ap kind (p.0 ∙ sym q.0); not_both = λ e x p form. p.1 x form };
  one_value = one;
}

pub of_rule : {E K : Type 0} (kind : E → K) (Rule : Type 0) (IsFault : E → Type 0) → ((e f : E) → IsFault e → IsFault f → kind e ≡ kind f) → HasOneOutcome kind (OfRule Rule IsFault)
of_rule kind Rule IsFault one = record {
  faults = record { one_kind = λ e f p q. one e f p.1 q.1; not_both = λ e x p rule. p.0 rule };
  one_value = λ x y p q. refl;
}

module _ {T U E K : Type 0} (kind : E → K) (V : Verdict T E) (next : T → Verdict U E) (first : HasOneOutcome kind V) where
  then_kind : ((x : T) → HasOneKind kind (next x)) → (e f : E) → AndThen V next (Err e) → AndThen V next (Err f) → kind e ≡ kind f
  then_kind second e f (inl p) (inl q) = first.faults.one_kind e f p q
  then_kind second e f (inl p) (inr q) = absurd (first.faults.not_both e q.0 p q.1)
  then_kind second e f (inr p) (inl q) = absurd (first.faults.not_both f p.0 q p.1)
  then_kind second e f (inr p) (inr q) = (second q.0).one_kind e f (subst (λ x. next x (Err e)) (first.one_value p.0 q.0 p.1 q.1) p.2) q.2

  then_both : ((x : T) → HasOneKind kind (next x)) → (e : E) (u : U) → AndThen V next (Err e) → AndThen V next (Ok u) → ⊥
  then_both second e u p (inl q) = q
  then_both second e u (inl p) (inr q) = first.faults.not_both e q.0 p q.1
  then_both second e u (inr p) (inr q) = (second q.0).not_both e u (subst (λ x. next x (Err e)) (first.one_value p.0 q.0 p.1 q.1) p.2) q.2

  then_value : ((x : T) → HasOneOutcome kind (next x)) → (u v : U) → AndThen V next (Ok u) → AndThen V next (Ok v) → u ≡ v
  then_value second u v (inl p) q = absurd p
  then_value second u v (inr p) (inl q) = absurd q
  then_value second u v (inr p) (inr q) = (second q.0).one_value u v (subst (λ x. next x (Ok u)) (first.one_value p.0 q.0 p.1 q.1) p.2) q.2

  -- two steps
  pub and_then : ((x : T) → HasOneKind kind (next x)) → HasOneKind kind (AndThen V next)
  and_then second = record { one_kind = then_kind second; not_both = then_both second }

  pub and_then_one : ((x : T) → HasOneOutcome kind (next x)) → HasOneOutcome kind (AndThen V next)
  and_then_one second = record { faults = and_then (λ x. (second x).faults); one_value = then_value second }

module _ {T E G K : Type 0} (raise : E → G) (kind : G → K) (V : Verdict T E) where
  pub raised : HasOneKind (λ e. kind (raise e)) V → HasOneKind kind (Raised raise V)
  raised one = record {
    one_kind = λ g h p q. ap kind p.2 ∙ one.one_kind p.0 q.0 p.1 q.1 ∙ sym (ap kind q.2);
    not_both = λ g x p right. one.not_both p.0 x p.1 right;
  }

  pub raised_one : HasOneOutcome (λ e. kind (raise e)) V → HasOneOutcome kind (Raised raise V)
  raised_one one = record { faults = raised one.faults; one_value = one.one_value }

-- a kind that follows from another
pub coarser : {T E K L : Type 0} (kind : E → K) (other : E → L) (V : Verdict T E) → ((e f : E) → kind e ≡ kind f → other e ≡ other f) → HasOneOutcome kind V → HasOneOutcome other V
coarser kind other V along one = record {
  faults = record { one_kind = λ e f p q. along e f (one.faults.one_kind e f p q); not_both = one.faults.not_both };
  one_value = one.one_value;
}

abbrev error_or : {T E : Type 0} → E → Result T E → E
error_or d (Ok x) = d
error_or d (Err e) = e

-- a file that is missing, or what is right of its bytes
pub of_file : {T E K : Type 0} (kind : E → K) (missing : E) (file : Option (List ℕ)) (V : List ℕ → Verdict T E) → ((bytes : List ℕ) → HasOneOutcome kind (V bytes)) → HasOneOutcome kind (OfFile missing file V)
of_file kind missing None V one = record {
  faults = record { one_kind = λ e f p q. ap kind (ap (error_or missing) p ∙ sym (ap (error_or missing) q)); not_both = λ e x p q. cc };
  one_value = λ x y p q. cc;
}
of_file kind missing (Some bytes) V one = one bytes

one_error : {T E : Type 0} (wanted : Result T E) (e f : E) → wanted ≡ Err e → wanted ≡ Err f → e ≡ f
one_error wanted e f p q = let same : Err e ≡ Err f = sym p ∙ q in cc

pub exactly : {T E K : Type 0} (kind : E → K) (wanted : Result T E) → HasOneOutcome kind (Exactly wanted)
exactly kind wanted = record {
  faults = record { one_kind = λ e f p q. ap kind (one_error wanted e f p q); not_both = λ e x p q. let same = sym p ∙ q in cc };
  one_value = λ x y p q. let same : Ok x ≡ Ok y = sym p ∙ q in cc;
}
