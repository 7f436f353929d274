-- What holds of all numbers that pass a test, or of some, by a loop over them alone.
use Rattle.std.proofs.Common.{◌≡◌, ℕ, zero, suc, ◌+◌, ◌<◌, ◌&&◌, ◌||◌, Bool, true, false, List, length, not, refl, sym, ap, ◌∙◌, subst, arith, inl, inr, add-one}
use Rattle.std.specs.Prelude.{slice_index_or}
use Rattle.std.proofs.lemmas.Bool.{cases_lt}
use Rattle.lt_arch.specs.Deeds.{all_below, some_below}
use Rattle.lt_link.specs.Ports.{numbers}
use Rattle.lt_link.proofs.Listed.{from_start, onward, here, within_zero, passes_zero}

one_more : (p : ℕ → Bool) (c : ℕ) → p c ≡ true → all_below p c ≡ true → all_below p (c + 1) ≡ true
one_more p c a b = ap (all_below p) (add-one c) ∙ (λ i. a i && b i)

none_more : (p : ℕ → Bool) (c : ℕ) → p c ≡ false → some_below p c ≡ false → some_below p (c + 1) ≡ false
none_more p c a b = ap (some_below p) (add-one c) ∙ (λ i. a i || b i)

and_false : (b : Bool) → (b && false) ≡ false
and_false true = refl
and_false false = refl

or_true : (b : Bool) → (b || true) ≡ true
or_true true = refl
or_true false = refl

not_all : (p : ℕ → Bool) (n x : ℕ) → x < n → p x ≡ false → all_below p n ≡ false
not_all p zero x lt h = absurd (omega (arith, lt))
not_all p (suc k) x lt h = elim (cases_lt x k) [
  | inl a ↦ ap (λ b. p k && b) (not_all p k x a h) ∙ and_false (p k)
  | inr a ↦ let e : x ≡ k = omega (arith, a, lt) in ap (λ b. b && all_below p k) (subst (λ z. p z ≡ false) e h)
]

some_one : (p : ℕ → Bool) (n x : ℕ) → x < n → p x ≡ true → some_below p n ≡ true
some_one p zero x lt h = absurd (omega (arith, lt))
some_one p (suc k) x lt h = elim (cases_lt x k) [
  | inl a ↦ ap (λ b. p k || b) (some_one p k x a h) ∙ or_true (p k)
  | inr a ↦ let e : x ≡ k = omega (arith, a, lt) in ap (λ b. b || some_below p k) (subst (λ z. p z ≡ true) e h)
]

module _ (on q : ℕ → Bool) (n : ℕ) (xs : List ℕ) (is : xs ≡ numbers on n) where
  -- a number is not listed, or q holds of it; and it is listed, and q holds of it
  abbrev or_other : (c : ℕ) → Bool
  or_other c = not (on c) || q c

  abbrev and_listed : (c : ℕ) → Bool
  and_listed c = on c && q c

  skip_all : (c : ℕ) → c < n → on c ≡ false → all_below or_other c ≡ true → all_below or_other (c + 1) ≡ true
  skip_all c lt off h = one_more or_other c (ap (λ b. not b || q c) off) h

  skip_some : (c : ℕ) → c < n → on c ≡ false → some_below and_listed c ≡ false → some_below and_listed (c + 1) ≡ false
  skip_some c lt off h = none_more and_listed c (ap (λ b. b && q c) off) h

  pub all_none : all_below (λ c. not (on c) || q c) (slice_index_or xs 0 n) ≡ true
  all_none = from_start on n xs is (λ c. all_below or_other c ≡ true) skip_all refl

  pub some_none : some_below (λ c. on c && q c) (slice_index_or xs 0 n) ≡ false
  some_none = from_start on n xs is (λ c. some_below and_listed c ≡ false) skip_some refl

  module _ (i : ℕ) (lt : i < length xs) (tells : Bool) (tells_is : tells ≡ q (slice_index_or xs i 0)) where
    on_here : on (slice_index_or xs i 0) ≡ true
    on_here = passes_zero on n xs is i lt

    other_here : or_other (slice_index_or xs i 0) ≡ tells
    other_here = ap (λ b. not b || q (slice_index_or xs i 0)) on_here ∙ sym tells_is

    listed_here : and_listed (slice_index_or xs i 0) ≡ tells
    listed_here = ap (λ b. b && q (slice_index_or xs i 0)) on_here ∙ sym tells_is

    pub all_more : tells ≡ true → all_below (λ c. not (on c) || q c) (slice_index_or xs i n) ≡ true → all_below (λ c. not (on c) || q c) (slice_index_or xs (i + 1) n) ≡ true
    all_more yes_here h =
        onward on n xs is (λ c. all_below or_other c ≡ true) skip_all i lt
        (one_more or_other (slice_index_or xs i 0) (other_here ∙ yes_here) (here n xs (λ c. all_below or_other c ≡ true) i lt h))

    pub some_more : tells ≡ false → some_below (λ c. on c && q c) (slice_index_or xs i n) ≡ false → some_below (λ c. on c && q c) (slice_index_or xs (i + 1) n) ≡ false
    some_more no_here h =
        onward on n xs is (λ c. some_below and_listed c ≡ false) skip_some i lt
        (none_more and_listed (slice_index_or xs i 0) (listed_here ∙ no_here) (here n xs (λ c. some_below and_listed c ≡ false) i lt h))

    pub all_not : tells ≡ false → all_below (λ c. not (on c) || q c) n ≡ false
    all_not no_here = not_all or_other n (slice_index_or xs i 0) (within_zero on n xs is i lt) (other_here ∙ no_here)

    pub some_yes : tells ≡ true → some_below (λ c. on c && q c) n ≡ true
    some_yes yes_here = some_one and_listed n (slice_index_or xs i 0) (within_zero on n xs is i lt) (listed_here ∙ yes_here)
