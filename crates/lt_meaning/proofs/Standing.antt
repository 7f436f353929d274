-- Elements of lists by their places.
use Rattle.std.proofs.Common.{◌≡◌, ℕ, zero, suc, ◌+◌, ◌<◌, ◌⊎◌, inl, inr, List, [], ◌∷◌, ◌++◌, length, take, Some, refl, ap, ◌∙◌, arith}
use Rattle.std.specs.Prelude.{slice_get}
use Rattle.lt_meaning.specs.Planned.{IsElement, StandsFrom}

pub get_left : {A : Type 0} (xs ys : List A) (i : ℕ) (x : A) → slice_get xs i ≡ Some x → slice_get (xs ++ ys) i ≡ Some x
get_left [] ys i x h = absurd (cc)
get_left (y ∷ xs) ys zero x h = h
get_left (y ∷ xs) ys (suc i) x h = get_left xs ys i x h

pub get_right : {A : Type 0} (xs ys : List A) (i j : ℕ) → j ≡ length xs + i → slice_get (xs ++ ys) j ≡ slice_get ys i
get_right [] ys i j h = ap (slice_get ys) (omega (arith, h))
get_right (y ∷ xs) ys i zero h = absurd (omega (arith, h))
get_right (y ∷ xs) ys i (suc j) h = get_right xs ys i j (omega (arith, h))

-- an element of two lists is one of either
pub get_either : {A : Type 0} (xs ys : List A) (i : ℕ) (x : A) → slice_get (xs ++ ys) i ≡ Some x → (slice_get xs i ≡ Some x) ⊎ ((j : ℕ) × (i ≡ length xs + j) × (slice_get ys j ≡ Some x))
get_either [] ys i x h = inr (i, omega arith, h)
get_either (y ∷ xs) ys zero x h = inl h
get_either (y ∷ xs) ys (suc i) x h =
    elim (get_either xs ys i x h) [
      | inl e ↦ inl e
      | inr r ↦ let e = r.1 in inr (r.0, omega (arith, e), r.2)
    ]

pub get_take : {A : Type 0} (xs : List A) (n i : ℕ) (x : A) → i < n → slice_get xs i ≡ Some x → slice_get (take n xs) i ≡ Some x
get_take xs zero i x l h = absurd (omega arith)
get_take [] (suc n) i x l h = absurd (cc)
get_take (y ∷ xs) (suc n) zero x l h = h
get_take (y ∷ xs) (suc n) (suc i) x l h = get_take xs n i x (omega arith) h

pub take_get : {A : Type 0} (xs : List A) (n i : ℕ) (x : A) → slice_get (take n xs) i ≡ Some x → (i < n) × (slice_get xs i ≡ Some x)
take_get xs zero i x h = absurd (cc)
take_get [] (suc n) i x h = absurd (cc)
take_get (y ∷ xs) (suc n) zero x h = (omega arith, h)
take_get (y ∷ xs) (suc n) (suc i) x h = let r = take_get xs n i x h in let l = r.0 in (omega (arith, l), r.1)

pub in_left : {A : Type 0} (xs ys : List A) (x : A) → IsElement xs x → IsElement (xs ++ ys) x
in_left xs ys x i = (i.0, get_left xs ys i.0 x i.1)

pub in_right : {A : Type 0} (xs ys : List A) (x : A) → IsElement ys x → IsElement (xs ++ ys) x
in_right xs ys x i = (length xs + i.0, get_right xs ys i.0 (length xs + i.0) refl ∙ i.1)

pub in_either : {A : Type 0} (xs ys : List A) (x : A) → IsElement (xs ++ ys) x → IsElement xs x ⊎ IsElement ys x
in_either xs ys x i = elim (get_either xs ys i.0 x i.1) [ inl e ↦ inl (i.0, e) | inr r ↦ inr (r.0, r.2) ]

pub from_left : {A : Type 0} (k : ℕ) (xs ys zs : List A) → StandsFrom k (xs ++ ys) zs → StandsFrom k xs zs
from_left k xs ys zs s i x h = s i x (get_left xs ys i x h)

pub from_right : {A : Type 0} (k n : ℕ) (xs ys zs : List A) → length xs ≡ n → StandsFrom k (xs ++ ys) zs → StandsFrom (k + n) ys zs
from_right k n xs ys zs l s i x h =
    ap (slice_get zs) (omega (arith, l)) ∙ s (length xs + i) x (get_right xs ys i (length xs + i) refl ∙ h)
