-- The places of the outputs that are named.
use Rattle.std.proofs.Common.{◌≡◌, ◌⊎◌, ℕ, zero, suc, ◌+◌, ◌<◌, ◌≤◌, Bool, true, false, not, List, [], ◌∷◌, ◌++◌, length, get_or, Some, None, cond, inl, inr, refl, sym, ap, ap₂, ◌∙◌, subst, arith}
use Rattle.std.specs.Prelude.{filter, position, nat_lt, ◌==◌}
use Rattle.std.specs.List.{position_or_len, prefix_len}
use Rattle.std.proofs.Common.{ltb-true, ltb-false, length-append}
use Rattle.std.proofs.lemmas.Bool.{lt-ltb}
use Rattle.std.proofs.lemmas.List.Elements.{filter-append}
use Rattle.lt_past.specs.Observer.{Increases}
use Rattle.lt_past.specs.Naming.{numbers_below, or_zero}

-- the numbers go up from low on, and stay below high
abbrev Goes : (low high : ℕ) → List ℕ → Type 0
Goes low high [] = low ≤ high
Goes low high (x ∷ xs) = (low ≤ x) × Goes (x + 1) high xs

goes_snoc : (low high y : ℕ) (xs : List ℕ) → Goes low high xs → high ≤ y → Goes low (y + 1) (xs ++ y ∷ [])
goes_snoc low high y [] g h = (omega arith, omega arith)
goes_snoc low high y (x ∷ xs) g h = (g.0, goes_snoc (x + 1) high y xs g.1 h)

goes_higher : (low high more : ℕ) (xs : List ℕ) → Goes low high xs → high ≤ more → Goes low more xs
goes_higher low high more [] g h = omega arith
goes_higher low high more (x ∷ xs) g h = (g.0, goes_higher (x + 1) high more xs g.1 h)

goes_at : (low high : ℕ) (xs : List ℕ) → Goes low high xs → (i : ℕ) → i < length xs → low ≤ get_or xs i 0
goes_at low high [] g i h = absurd (omega (arith, h))
goes_at low high (x ∷ xs) g zero h = g.0
goes_at low high (x ∷ xs) g (suc i) h = let k = goes_at (x + 1) high xs g.1 i (omega (arith, h)) in omega (arith, k, g.0)

goes_up : (low high : ℕ) (xs : List ℕ) → Goes low high xs → Increases xs
goes_up low high [] g i j lt h = absurd (omega (arith, h))
goes_up low high (x ∷ xs) g i zero lt h = absurd (omega (arith, lt))
goes_up low high (x ∷ xs) g zero (suc j) lt h = let k = goes_at (x + 1) high xs g.1 j (omega (arith, h)) in omega (arith, k)
goes_up low high (x ∷ xs) g (suc i) (suc j) lt h = goes_up (x + 1) high xs g.1 i j (omega (arith, lt)) (omega (arith, h))

module _ (p : ℕ → Bool) where
  chosen_goes : (n : ℕ) → Goes 0 n (filter p (numbers_below n))
  chosen_goes zero = omega arith
  chosen_goes (suc n) =
      let h = chosen_goes n in
      let e : n + 1 ≡ suc n = omega arith in
      subst (Goes 0 (suc n)) (sym (filter-append p (numbers_below n) (n ∷ [])))
      (elim (p n) as (λ b. Goes 0 (suc n) (filter p (numbers_below n) ++ cond b (n ∷ []) [])) [
        | true ↦ subst (λ m. Goes 0 m (filter p (numbers_below n) ++ n ∷ [])) e (goes_snoc 0 n n (filter p (numbers_below n)) h (omega arith))
        | false ↦ subst (Goes 0 (suc n)) (sym (nil_end (filter p (numbers_below n)))) (goes_higher 0 n (suc n) (filter p (numbers_below n)) h (omega arith))
      ])
    where
      nil_end : (xs : List ℕ) → xs ++ [] ≡ xs
      nil_end [] = refl
      nil_end (x ∷ xs) = ap (λ z. x ∷ z) (nil_end xs)

  -- they stand in order, each once
  pub chosen_increase : (n : ℕ) → Increases (filter p (numbers_below n))
  chosen_increase n = goes_up 0 n (filter p (numbers_below n)) (chosen_goes n)

abbrev pub Has : List ℕ → ℕ → Type 0
Has [] y = ⊥
Has (x ∷ xs) y = (x ≡ y) ⊎ Has xs y

has_left : (xs ys : List ℕ) (y : ℕ) → Has xs y → Has (xs ++ ys) y
has_left [] ys y h = absurd h
has_left (x ∷ xs) ys y (inl e) = inl e
has_left (x ∷ xs) ys y (inr h) = inr (has_left xs ys y h)

has_right : (xs ys : List ℕ) (y : ℕ) → Has ys y → Has (xs ++ ys) y
has_right [] ys y h = h
has_right (x ∷ xs) ys y h = inr (has_right xs ys y h)

-- each number that is chosen is among them
pub chosen_has : (p : ℕ → Bool) (n y : ℕ) → y < n → p y ≡ true → Has (filter p (numbers_below n)) y
chosen_has p zero y h is = absurd (omega (arith, h))
chosen_has p (suc n) y h is =
    subst (λ z. Has z y) (sym (filter-append p (numbers_below n) (n ∷ [])))
    (elim (nat_lt y n) as (λ t. nat_lt y n ≡ t → Has (filter p (numbers_below n) ++ filter p (n ∷ [])) y) [
      | true ↦ λ lt. let l : y < n = ltb-true y n lt in has_left (filter p (numbers_below n)) (filter p (n ∷ [])) y (chosen_has p n y l is)
      | false ↦ λ ge.
          let l : n ≤ y = ltb-false y n ge in
          let e : n ≡ y = omega (arith, h, l) in
          let yes : p n ≡ true = ap p e ∙ is in
          has_right (filter p (numbers_below n)) (filter p (n ∷ [])) y (subst (λ b. Has (cond b (n ∷ []) []) y) (sym yes) (inl e))
    ] refl)

-- the place of a number in a list that has it
first_low : (xs : List ℕ) (y : ℕ) → Has xs y → prefix_len (λ z. not (z == y)) xs < length xs
first_low [] y h = absurd h
first_low (x ∷ xs) y h =
    elim (x == y) as (λ b. (x == y) ≡ b → cond (not b) (1 + prefix_len (λ z. not (z == y)) xs) 0 < length (x ∷ xs)) [
      | true ↦ λ is. omega arith
      | false ↦ λ is. elim h [
        | inl e ↦ absurd (grind (arith, e, is))
        | inr r ↦ let k = first_low xs y r in omega (arith, k)
      ]
    ] refl

pub place_low : (xs : List ℕ) (y : ℕ) → Has xs y → or_zero (position (λ z. z == y) xs) < length xs
place_low xs y h =
    let k : position_or_len (λ z. z == y) xs < length xs = first_low xs y h in
    subst (λ b. or_zero (cond b (Some (position_or_len (λ z. z == y) xs)) None) < length xs) (sym (lt-ltb (position_or_len (λ z. z == y) xs) (length xs) k)) k

-- by another test that answers the same
pub filter_same : (p q : ℕ → Bool) → ((x : ℕ) → p x ≡ q x) → (xs : List ℕ) → filter p xs ≡ filter q xs
filter_same p q h [] = refl
filter_same p q h (x ∷ xs) = ap₂ (λ b ys. cond b (x ∷ ys) ys) (h x) (filter_same p q h xs)

-- no more than there are
pub filter_short : (p : ℕ → Bool) (n : ℕ) → length (filter p (numbers_below n)) ≤ n
filter_short p zero = omega arith
filter_short p (suc n) =
    let h = filter_short p n in
    let e = ap length (filter-append p (numbers_below n) (n ∷ [])) in
    let l = length-append (filter p (numbers_below n)) (filter p (n ∷ [])) in
    let k : length (filter p (n ∷ [])) ≤ 1 = one (p n) in
    omega (arith, h, e, l, k)
  where
    one : (b : Bool) → length (cond b (n ∷ []) []) ≤ 1
    one true = omega arith
    one false = omega arith
