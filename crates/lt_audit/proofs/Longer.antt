-- Lists of events with one more at the end.
use Rattle.std.proofs.Common.{◌≡◌, ◌⊎◌, ℕ, List, [], ◌∷◌, ◌++◌, None, refl, sym, ap, subst, inl, inr}
use Rattle.lt_arch.specs.declared.event.Event.{Event}
use Rattle.lt_arch.specs.declared.timing.Timing.{Timing}
use Rattle.lt_arch.specs.declared.shape.Shape.{Shape}
use Rattle.lt_arch.specs.State.{State}
use Rattle.lt_arch.specs.Step.{after, offence_of}
use Rattle.lt_arch.specs.Schedule.{after_all, HasNoOffence}

pub after_push : (s : Shape) (t : Timing) (rows : ℕ) (st : State) (es : List Event) (e : Event) → after_all s t rows st (es ++ e ∷ []) ≡ after s t rows (after_all s t rows st es) e
after_push s t rows st [] e = refl
after_push s t rows st (d ∷ es) e = after_push s t rows (after s t rows st d) es e

pub free_push : (s : Shape) (t : Timing) (rows : ℕ) (st : State) (es : List Event) (e : Event) → HasNoOffence s t rows st es → offence_of s t (after_all s t rows st es) e ≡ None → HasNoOffence s t rows st (es ++ e ∷ [])
free_push s t rows st [] e free none = (none, tt)
free_push s t rows st (d ∷ es) e free none = (free.0, free_push s t rows (after s t rows st d) es e free.1 none)

-- where an element of a list with one more at the end stands: at the end, or among the others
pub record IsAmong {A : Type 0} (xs : List A) (front : List A) (y : A) (later : List A) : Type 0 where
  pub rest : List A
  pub later_is : xs ≡ front ++ y ∷ rest

pub record IsAtEnd {A : Type 0} (xs : List A) (x : A) (front : List A) (y : A) : Type 0 where
  pub front_is : front ≡ xs
  pub last_is : y ≡ x

abbrev tail_of : {A : Type 0} → List A → List A
tail_of [] = []
tail_of (x ∷ xs) = xs

abbrev head_or : {A : Type 0} → A → List A → A
head_or d [] = d
head_or d (x ∷ xs) = x

abbrev is_nil : {A : Type 0} → List A → Type 0
is_nil [] = Unit {0}
is_nil (x ∷ xs) = ⊥

pub not_nil : {A : Type 0} (front : List A) (y : A) (later : List A) → front ++ y ∷ later ≡ [] → ⊥
not_nil [] y later is = subst is_nil (sym is) tt
not_nil (z ∷ front) y later is = subst is_nil (sym is) tt

pub where_last : {A : Type 0} (xs : List A) (x : A) (front : List A) (y : A) (later : List A) → xs ++ x ∷ [] ≡ front ++ y ∷ later → IsAtEnd xs x front y ⊎ IsAmong xs front y later
where_last [] x [] y later is = inl (record { front_is = refl; last_is = ap (head_or y) (sym is) })
where_last [] x (z ∷ front) y later is = absurd (not_nil front y later (ap tail_of (sym is)))
where_last (w ∷ xs) x [] y later is = inr (record { rest = xs; later_is = ap (λ v. v ∷ xs) (ap (head_or w) is) })
where_last (w ∷ xs) x (z ∷ front) y later is = elim (where_last xs x front y later (ap tail_of is)) [
  | inl h ↦ inl (record { front_is = (λ i. ap (head_or z) (sym is) i ∷ h.front_is i); last_is = h.last_is })
  | inr h ↦ inr (record { rest = h.rest; later_is = λ i. ap (head_or w) is i ∷ h.later_is i })
]
