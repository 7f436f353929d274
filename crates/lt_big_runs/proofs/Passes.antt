-- Verdicts without a right refusal, by what their values have.
use Rattle.std.proofs.Common.{◌≡◌, Result, Ok, Err, inl, inr}
use Rattle.lt_answer.specs.Answered.{Verdict, AndThen}
use Rattle.lt_answer.specs.Rules.{Exactly, Raised}

-- no refusal is right, and each right value has this
pub record Passes {T E : Type 0} (V : Verdict T E) (P : T → Type 0) : Type 0 where
  pub never : (e : E) → V (Err e) → ⊥
  pub has : (x : T) → V (Ok x) → P x

module _ {T U E : Type 0} (V : Verdict T E) (next : T → Verdict U E) (P : T → Type 0) (Q : U → Type 0) (first : Passes V P) (second : (x : T) → P x → Passes (next x) Q) where
  never_then : (e : E) → AndThen V next (Err e) → ⊥
  never_then e (inl refused) = first.never e refused
  never_then e (inr later) = (second later.0 (first.has later.0 later.1)).never e later.2

  has_then : (u : U) → AndThen V next (Ok u) → Q u
  has_then u (inl refused) = absurd refused
  has_then u (inr later) = (second later.0 (first.has later.0 later.1)).has u later.2

  -- two steps
  pub passes_then : Passes (AndThen V next) Q
  passes_then = record { never = never_then; has = has_then }

-- outcomes that are equal
pub ok_same : {A B : Type 0} (x y : A) → ◌≡◌ {A = Result A B} (Ok x) (Ok y) → x ≡ y
ok_same x y is = cc

pub ok_not_err : {A B : Type 0} (x : A) (e : B) → ◌≡◌ {A = Result A B} (Ok x) (Err e) → ⊥
ok_not_err x e is = cc

pub passes_raised : {T E G : Type 0} (raise : E → G) (V : Verdict T E) (P : T → Type 0) → Passes V P → Passes (Raised raise V) P
passes_raised raise V P first = record { never = λ g right. first.never right.0 right.1; has = first.has }

pub passes_exactly : (T E : Type 0) (x : T) → Passes (Exactly {T = T} {E = E} (Ok x)) (λ y. x ≡ y)
passes_exactly T E x = record { never = λ e wrong. ok_not_err x e wrong; has = λ y is. ok_same x y is }
