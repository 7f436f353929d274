-- Lists whose elements hold something by their places, and one element more.
use Rattle.std.proofs.Common.{◌≡◌, ℕ, zero, suc, List, [], ◌∷◌, ◌++◌, length, Some, subst}
use Rattle.std.specs.Prelude.{slice_get}

-- what holds of each element and its place holds so with one more at the end
pub one_more : {A : Type 0} (P : ℕ → A → Type 0) (xs : List A) (y : A) → ((n : ℕ) (x : A) → slice_get xs n ≡ Some x → P n x) → P (length xs) y → (n : ℕ) (x : A) → slice_get (xs ++ y ∷ []) n ≡ Some x → P n x
one_more P [] y all last zero x is = let same : y ≡ x = cc is in subst (P 0) same last
one_more P [] y all last (suc n) x is = absurd (cc)
one_more P (z ∷ xs) y all last zero x is = all zero x is
one_more P (z ∷ xs) y all last (suc n) x is = one_more (λ j. P (suc j)) xs y (λ j w e. all (suc j) w e) last n x is
