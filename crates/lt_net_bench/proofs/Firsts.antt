-- The first entries of a sequence.
use Rattle.std.proofs.Common.{◌≡◌, inl, inr, ℕ, zero, suc, ◌+◌, ◌<◌, ◌≤◌, List, [], ◌∷◌, ◌++◌, length, map, reverse, take, refl, sym, ap, ◌∙◌, arith, length-append, add-zero}
use Rattle.std.specs.Prelude.{slice_index_or}
use Rattle.std.proofs.lemmas.List.{reverse-append, reverse-reverse, take-append-le}
use Rattle.std.proofs.Math.Seq.{take-suc, get_or-append_seam}
use Rattle.std.proofs.Math.ListN.{get_or-append}
use Rattle.std.proofs.lemmas.Bool.{cases_order}
use Rattle.lt_net_node.specs.Local.{upto, firsts}

pub map-append-one : {A B : Type 0} (g : A → B) (xs : List A) (y : A) → map g (xs ++ y ∷ []) ≡ map g xs ++ g y ∷ []
map-append-one g [] y = refl
map-append-one g (x ∷ xs) y = ap (λ r. g x ∷ r) (map-append-one g xs y)

pub map-firsts : {A B : Type 0} (g : A → B) (f : ℕ → A) (m : ℕ) → map g (firsts f m) ≡ firsts (λ k. g (f k)) m
map-firsts g f zero = refl
map-firsts g f (suc m) = map-append-one g (firsts f m) (f m) ∙ ap (λ r. r ++ g (f m) ∷ []) (map-firsts g f m)

pub map-upto : {A B : Type 0} (g : A → B) (f : ℕ → A) (m : ℕ) → map g (upto f m) ≡ upto (λ k. g (f k)) m
map-upto g f zero = refl
map-upto g f (suc m) = ap (λ r. g (f m) ∷ r) (map-upto g f m)

pub length-firsts : {A : Type 0} (f : ℕ → A) (m : ℕ) → length (firsts f m) ≡ m
length-firsts f zero = refl
length-firsts f (suc m) = omega (arith, length-append (firsts f m) (f m ∷ []), length-firsts f m)

pub reverse-firsts : {A : Type 0} (f : ℕ → A) (m : ℕ) → reverse (firsts f m) ≡ upto f m
reverse-firsts f zero = refl
reverse-firsts f (suc m) = reverse-append (firsts f m) (f m ∷ []) ∙ ap (λ r. f m ∷ r) (reverse-firsts f m)

pub reverse-upto : {A : Type 0} (f : ℕ → A) (m : ℕ) → reverse (upto f m) ≡ firsts f m
reverse-upto f m = ap reverse (sym (reverse-firsts f m)) ∙ reverse-reverse (firsts f m)

pub take_all : {A : Type 0} (xs : List A) (m : ℕ) → length xs ≡ m → take m xs ≡ xs
take_all [] zero h = refl
take_all [] (suc m) h = refl
take_all (x ∷ xs) zero h = absurd (omega arith)
take_all (x ∷ xs) (suc m) h = ap (λ r. x ∷ r) (take_all xs m (omega arith))

pub take-firsts : {A : Type 0} (f : ℕ → A) (m d : ℕ) → take m (firsts f (m + d)) ≡ firsts f m
take-firsts f m zero = ap (λ r. take m (firsts f r)) (add-zero m) ∙ take_all (firsts f m) m (length-firsts f m)
take-firsts f m (suc d) =
    let e : m + suc d ≡ suc (m + d) = omega arith in
    ap (λ r. take m (firsts f r)) e
    ∙ take-append-le m (firsts f (m + d)) (f (m + d) ∷ []) (omega (arith, length-firsts f (m + d)))
    ∙ take-firsts f m d

pub firsts-list : {A : Type 0} (d : A) (xs : List A) (m : ℕ) → m ≤ length xs → firsts (λ k. slice_index_or xs k d) m ≡ take m xs
firsts-list d xs zero h = refl
firsts-list d xs (suc m) h = ap (λ r. r ++ slice_index_or xs m d ∷ []) (firsts-list d xs m (omega arith)) ∙ sym (take-suc xs m d (omega arith))

pub firsts-same : {A : Type 0} (f g : ℕ → A) (m : ℕ) → ((k : ℕ) → k < m → f k ≡ g k) → firsts f m ≡ firsts g m
firsts-same f g zero h = refl
firsts-same f g (suc m) h =
    let a = firsts-same f g m (λ k b. h k (omega arith)) in
    let b = h m (omega arith) in
    λ i. a i ++ b i ∷ []

pub upto-same : {A : Type 0} (f g : ℕ → A) (m : ℕ) → ((k : ℕ) → k < m → f k ≡ g k) → upto f m ≡ upto g m
upto-same f g zero h = refl
upto-same f g (suc m) h =
    let a = upto-same f g m (λ k b. h k (omega arith)) in
    let b = h m (omega arith) in
    λ i. b i ∷ a i

pub get-firsts : {A : Type 0} (f : ℕ → A) (m k : ℕ) (d : A) → k < m → slice_index_or (firsts f m) k d ≡ f k
get-firsts f zero k d lt = absurd (omega (arith, lt))
get-firsts f (suc m) k d lt = elim (cases_order k m) [
  | inl e ↦ ap (λ j. slice_index_or (firsts f m ++ f m ∷ []) j d) (e ∙ sym (length-firsts f m)) ∙ get_or-append_seam (firsts f m) (f m) [] d ∙ ap f (sym e)
  | inr h ↦ elim h [
    | inl less ↦ get_or-append (firsts f m) (f m ∷ []) d k (omega (arith, less, length-firsts f m)) ∙ get-firsts f m k d less
    | inr more ↦ absurd (omega (arith, lt, more))
  ]
]
