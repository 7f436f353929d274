-- The messages in transit, one more of a channel, and those of channels that are alike.
use Rattle.std.proofs.Common.{◌≡◌, ◌∙◌, ℕ, zero, suc, ◌+◌, ◌<◌, List, [], ◌∷◌, ◌++◌, length, map, take, slice_index_or, append_assoc, add-one, arith, ap, Some, refl, sym}
use Rattle.std.specs.Prelude.{slice_get}
use Rattle.lt_diagram.specs.declared.picture.Arrow.{Arrow}
use Rattle.lt_course.specs.Strokes.{arrows_below}

take_got : {A : Type 0} (xs : List A) (place : ℕ) (x : A) → Some x ≡ slice_get xs place → take (suc place) xs ≡ take place xs ++ x ∷ []
take_got [] zero x is = cc
take_got [] (suc p) x is = cc
take_got (y ∷ later) zero x is = let same : x ≡ y = cc in ap (λ z. z ∷ []) (sym same)
take_got (y ∷ later) (suc p) x is = ap (λ xs. y ∷ xs) (take_got later p x is)

-- the next one is appended
pub one_more : {A : Type 0} (xs : List A) (place : ℕ) (x : A) (before after first : List A) → Some x ≡ slice_get xs place → before ≡ first ++ take place xs → after ≡ before ++ x ∷ [] → after ≡ first ++ take (place + 1) xs
one_more xs place x before after first got is on =
    on ∙ ap (λ ys. ys ++ x ∷ []) is ∙ append_assoc first (take place xs) (x ∷ []) ∙ ap (λ ys. first ++ ys) (sym (take_got xs place x got)) ∙ ap (λ k. first ++ take k xs) (sym (add-one place))

-- a message at its place, as it is drawn
pub mapped_at : {A B : Type 0} (f : A → B) (none : A) (xs : List A) (place : ℕ) → place < length (map f xs) → Some (f (slice_index_or xs place none)) ≡ slice_get (map f xs) place
mapped_at f none [] place lt = absurd (omega (arith, lt))
mapped_at f none (x ∷ later) zero lt = refl
mapped_at f none (x ∷ later) (suc p) lt = mapped_at f none later p (omega (arith, lt))

-- the same on each channel
pub below_same : (f g : ℕ → List Arrow) (n : ℕ) → ((c : ℕ) → c < n → f c ≡ g c) → arrows_below f n ≡ arrows_below g n
below_same f g zero same = refl
below_same f g (suc c) same = λ i. below_same f g c (λ d lt. same d (omega (arith, lt))) i ++ same c (omega arith) i
