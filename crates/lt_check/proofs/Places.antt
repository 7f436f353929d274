-- There is one first place, and none where every rule is kept.
use Rattle.std.proofs.Common.{◌≡◌, ℕ, suc, ◌<◌, ◌⊎◌, inl, inr, length, Some, refl, sym, ap, subst, arith}
use Rattle.std.specs.Prelude.{◌↔◌}
use Rattle.std.specs.Prelude.{Result, Ok, Err, MatchResult, IsErrAnd}
use Rattle.std.specs.List.{slice_get}
use Rattle.std.proofs.lemmas.Bool.Decides.{leb_tells}
use Rattle.lt_base.specs.Expression.{Expression}
use Rattle.lt_base.specs.Program.{Function}
use Rattle.lt_check.specs.Places.{Place, declaration, equation, FirstDeclaration, FirstEquation, FirstIn}
use Rattle.lt_check.proofs.Found.{all_front}

pub compare : (x y : ℕ) → (x < y) ⊎ ((y < x) ⊎ (x ≡ y))
compare x y = elim (leb_tells (suc x) y) [
  | inl a ↦ inl (omega (arith, a.1))
  | inr a ↦ inr (elim (leb_tells (suc y) x) [ inl b ↦ inl (omega (arith, b.1)) | inr b ↦ inr (omega (arith, a.1, b.1)) ])
]

module _ (D : ℕ → Type 0) (E : ℕ × Expression → Type 0) (f : Function) where
  pub kept_not_first : ((x : ℕ) → x < length f.decls → D x) → ((k : ℕ) (q : ℕ × Expression) → slice_get f.eqs k ≡ Some q → E q) → (a : Place) → FirstIn D E f a → ⊥
  kept_not_first d e (declaration x) h = h.broken (d x h.inside)
  kept_not_first d e (equation k) h = h.1.1.broken (e k h.1.0 h.1.1.here)

  first_before : (a b : ℕ) → FirstDeclaration D f a → FirstDeclaration D f b → a < b → ⊥
  first_before a b h k l = h.broken (k.before a l)

  pub one_declaration : (a b : ℕ) → FirstDeclaration D f a → FirstDeclaration D f b → a ≡ b
  one_declaration a b h k = elim (compare a b) [ inl l ↦ absurd (first_before a b h k l) | inr r ↦ elim r [ inl l ↦ absurd (first_before b a k h l) | inr e ↦ e ] ]

  equation_before : (a b : ℕ) (q r : ℕ × Expression) → FirstEquation E f a q → FirstEquation E f b r → a < b → ⊥
  equation_before a b q r h k l = h.broken (all_front E f.eqs b a q k.before l h.here)

  one_equation : (a b : ℕ) (q r : ℕ × Expression) → FirstEquation E f a q → FirstEquation E f b r → a ≡ b
  one_equation a b q r h k = elim (compare a b) [ inl l ↦ absurd (equation_before a b q r h k l) | inr s ↦ elim s [ inl l ↦ absurd (equation_before b a r q k h l) | inr e ↦ e ] ]

  pub one_place : (a b : Place) → FirstIn D E f a → FirstIn D E f b → a ≡ b
  one_place (declaration x) (declaration y) h k = ap declaration (one_declaration x y h k)
  one_place (declaration x) (equation m) h k = absurd (h.broken (k.0 x h.inside))
  one_place (equation m) (declaration x) h k = absurd (k.broken (h.0 x k.inside))
  one_place (equation m) (equation n) h k = ap equation (one_equation m n h.1.0 k.1.0 h.1.1 k.1.1)

-- an answer that is right, and a fault that is the only one, tell everything
module _ {F : Type 0} (P : Type 0) (Is : F → Type 0) (not_both : (x : F) → Is x → P → ⊥) (one : (x y : F) → Is x → Is y → x ≡ y) where
  pub ok_exactly : (r : Result (Unit {0}) F) → MatchResult r (λ _. P) Is → (r ≡ Ok tt) ↔ P
  ok_exactly (Ok u) h = (λ _. h, λ _. refl)
  ok_exactly (Err x) h = (λ e. absurd (cc), λ p. absurd (not_both x h p))

  pub err_exactly : (r : Result (Unit {0}) F) → MatchResult r (λ _. P) Is → (x : F) → (r ≡ Err x) ↔ Is x
  err_exactly (Ok u) h x = (λ e. absurd (cc), λ k. absurd (not_both x k h))
  err_exactly (Err y) h x = (λ e. let same : y ≡ x = cc in subst Is same h, λ k. ap Err (one y x h k))

-- an error that was handed on
pub handed_on : {F : Type 0} (P : Type 0) (Is : F → Type 0) (x : F) → Is x → (r : Result (Unit {0}) F) → IsErrAnd r (λ y. y ≡ x) → MatchResult r (λ _. P) Is
handed_on P Is x is (Ok u) h = absurd h
handed_on P Is x is (Err y) h = subst Is (sym h) is
