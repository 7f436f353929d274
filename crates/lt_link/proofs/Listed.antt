-- Numbers that pass a test, in increasing order.
use Rattle.std.proofs.Common.{◌≡◌, ℕ, zero, suc, ◌+◌, ◌<◌, ◌≤◌, Bool, true, false, List, [], ◌∷◌, ◌++◌, length, refl, sym, ap, ◌∙◌, subst, arith, inl, inr, length-append}
use Rattle.std.specs.Prelude.{slice_index_or, ◌⊎◌}
use Rattle.std.proofs.lemmas.Bool.{cases_lt}
use Rattle.std.proofs.lemmas.List.{get_or_default, get_or_past}
use Rattle.std.proofs.Math.Seq.{get_or-append_seam}
use Rattle.std.proofs.Math.ListN.{get_or-append}
use Rattle.lt_link.specs.Ports.{push_number, numbers}

-- the numbers of a list are below n and pass the test, and no other below n does
pub record IsListed (on : ℕ → Bool) (n : ℕ) (xs : List ℕ) : Type 0 where
  pub within : (i : ℕ) → i < length xs → slice_index_or xs i n < n
  pub passes : (i : ℕ) → i < length xs → on (slice_index_or xs i n) ≡ true
  pub first : (c : ℕ) → c < slice_index_or xs 0 n → on c ≡ false
  pub grows : (i : ℕ) → i < length xs → slice_index_or xs i n < slice_index_or xs (i + 1) n
  pub between : (i c : ℕ) → i < length xs → slice_index_or xs i n < c → c < slice_index_or xs (i + 1) n → on c ≡ false

module _ (on : ℕ → Bool) (k : ℕ) (xs : List ℕ) (l : IsListed on k xs) where
  most : (i : ℕ) → slice_index_or xs i k ≤ k
  most i = elim (cases_lt i (length xs)) [
    | inl h ↦ let w = l.within i h in omega (arith, w)
    | inr h ↦ let e = get_or_past xs i k (omega (arith, h)) in omega (arith, e)
  ]

  -- the end moved up by one
  before_last : (i c : ℕ) → c < slice_index_or xs i (suc k) → (c < slice_index_or xs i k) ⊎ (c ≡ k)
  before_last i c lt = elim (cases_lt i (length xs)) [
    | inl h ↦ let e = get_or_default xs i (suc k) k h in inl (omega (arith, e, lt))
    | inr h ↦
        let e = get_or_past xs i (suc k) (omega (arith, h)) in
        let f = get_or_past xs i k (omega (arith, h)) in
        elim (cases_lt c k) [ inl a ↦ inl (omega (arith, a, f)) | inr a ↦ inr (omega (arith, a, e, lt)) ]
  ]

  -- with k at the end
  seen : (i : ℕ) → i ≤ length xs → slice_index_or (xs ++ k ∷ []) i (suc k) ≡ slice_index_or xs i k
  seen i le = elim (cases_lt i (length xs)) [
    | inl h ↦ get_or-append xs (k ∷ []) (suc k) i h ∙ get_or_default xs i (suc k) k h
    | inr h ↦
        let e : i ≡ length xs = omega (arith, h, le) in
        ap (λ j. slice_index_or (xs ++ k ∷ []) j (suc k)) e ∙ get_or-append_seam xs k [] (suc k) ∙ sym (get_or_past xs i k (omega (arith, h)))
  ]

  longer : length (xs ++ k ∷ []) ≡ length xs + 1
  longer = length-append xs (k ∷ [])

  skipped : on k ≡ false → IsListed on (suc k) xs
  skipped off = record {
    within = λ i lt. let e = get_or_default xs i (suc k) k lt in let w = l.within i lt in omega (arith, e, w);
    passes = λ i lt. ap on (get_or_default xs i (suc k) k lt) ∙ l.passes i lt;
    first = λ c lt. elim (before_last 0 c lt) [ inl a ↦ l.first c a | inr e ↦ ap on e ∙ off ];
    grows = λ i lt.
        let e = get_or_default xs i (suc k) k lt in
        let w = l.within i lt in
        let g = l.grows i lt in
        elim (cases_lt (i + 1) (length xs)) [
          | inl h ↦ let f = get_or_default xs (i + 1) (suc k) k h in omega (arith, e, f, g)
          | inr h ↦ let f = get_or_past xs (i + 1) (suc k) (omega (arith, h)) in omega (arith, e, f, w)
        ];
    between = λ i c lt above below.
        let e = get_or_default xs i (suc k) k lt in
        elim (before_last (i + 1) c below) [ inl a ↦ l.between i c lt (omega (arith, above, e)) a | inr q ↦ ap on q ∙ off ];
  }

  pushed : on k ≡ true → IsListed on (suc k) (xs ++ k ∷ [])
  pushed yes_here = record {
    within = λ i lt. let e = seen i (omega (arith, lt, longer)) in let m = most i in omega (arith, e, m);
    passes = λ i lt. ap on (seen i (omega (arith, lt, longer))) ∙ elim (cases_lt i (length xs)) [ inl h ↦ l.passes i h | inr h ↦ ap on (get_or_past xs i k (omega (arith, h))) ∙ yes_here ];
    first = λ c lt. let e = seen 0 (omega arith) in l.first c (omega (arith, lt, e));
    grows = λ i lt.
        let e = seen i (omega (arith, lt, longer)) in
        elim (cases_lt i (length xs)) [
          | inl h ↦ let f = seen (i + 1) (omega (arith, h)) in let g = l.grows i h in omega (arith, e, f, g)
          | inr h ↦
              let f = get_or_past (xs ++ k ∷ []) (i + 1) (suc k) (omega (arith, h, longer)) in
              let p = get_or_past xs i k (omega (arith, h)) in
              omega (arith, e, f, p)
        ];
    between = λ i c lt above below.
        let e = seen i (omega (arith, lt, longer)) in
        elim (cases_lt i (length xs)) [
          | inl h ↦ let f = seen (i + 1) (omega (arith, h)) in l.between i c h (omega (arith, above, e)) (omega (arith, below, f))
          | inr h ↦
              let f = get_or_past (xs ++ k ∷ []) (i + 1) (suc k) (omega (arith, h, longer)) in
              let p = get_or_past xs i k (omega (arith, h)) in
              absurd (omega (arith, e, f, p, above, below))
        ];
  }

  pub listed_more : (b : Bool) → on k ≡ b → IsListed on (suc k) (push_number b k xs)
  listed_more true h = pushed h
  listed_more false h = skipped h

pub listed : (on : ℕ → Bool) (n : ℕ) → IsListed on n (numbers on n)
listed on zero = record {
  within = λ i lt. absurd (omega (arith, lt));
  passes = λ i lt. absurd (omega (arith, lt));
  first = λ c lt. absurd (omega (arith, lt));
  grows = λ i lt. absurd (omega (arith, lt));
  between = λ i c lt above below. absurd (omega (arith, lt));
}
listed on (suc k) = listed_more on k (numbers on k) (listed on k) (on k) refl

pub within_zero : (on : ℕ → Bool) (n : ℕ) (xs : List ℕ) → xs ≡ numbers on n → (i : ℕ) → i < length xs → slice_index_or xs i 0 < n
within_zero on n xs is i lt =
    let l = subst (IsListed on n) (sym is) (listed on n) in
    let w = l.within i lt in
    let e = get_or_default xs i 0 n lt in
    omega (arith, w, e)

pub passes_zero : (on : ℕ → Bool) (n : ℕ) (xs : List ℕ) → xs ≡ numbers on n → (i : ℕ) → i < length xs → on (slice_index_or xs i 0) ≡ true
passes_zero on n xs is i lt = let l = subst (IsListed on n) (sym is) (listed on n) in ap on (get_or_default xs i 0 n lt) ∙ l.passes i lt

-- A loop over such a list keeps what a loop over all numbers keeps, where a number that is left out changes nothing.
module _ (on : ℕ → Bool) (n : ℕ) (xs : List ℕ) (is : xs ≡ numbers on n) (P : ℕ → Type 0) (skip : (c : ℕ) → c < n → on c ≡ false → P c → P (c + 1)) where
  those : IsListed on n xs
  those = subst (IsListed on n) (sym is) (listed on n)

  over : (a b : ℕ) → a ≤ b → b ≤ n → ((c : ℕ) → a ≤ c → c < b → on c ≡ false) → P a → P b
  over a zero le bn off p = let e : a ≡ 0 = omega (arith, le) in subst P e p
  over a (suc b) le bn off p = elim (cases_lt b a) [
    | inl h ↦ let e : a ≡ suc b = omega (arith, h, le) in subst P e p
    | inr h ↦
        let e : b + 1 ≡ suc b = omega arith in
        subst P e (skip b (omega (arith, bn)) (off b (omega (arith, h)) (omega arith)) (over a b (omega (arith, h)) (omega (arith, bn)) (λ c ac cb. off c ac (omega (arith, cb))) p))
  ]

  pub from_start : P 0 → P (slice_index_or xs 0 n)
  from_start p = over 0 (slice_index_or xs 0 n) (omega arith) (most on n xs those 0) (λ c above lt. those.first c lt) p

  pub onward : (i : ℕ) → i < length xs → P (slice_index_or xs i 0 + 1) → P (slice_index_or xs (i + 1) n)
  onward i lt p =
      let g = those.grows i lt in
      let e : slice_index_or xs i 0 ≡ slice_index_or xs i n = get_or_default xs i 0 n lt in
      over (slice_index_or xs i n + 1) (slice_index_or xs (i + 1) n) (omega (arith, g)) (most on n xs those (i + 1)) (λ c above below. those.between i c lt (omega (arith, above)) below) (subst (λ x. P (x + 1)) e p)

-- where the next number stands
pub here : (n : ℕ) (xs : List ℕ) (P : ℕ → Type 0) (i : ℕ) → i < length xs → P (slice_index_or xs i n) → P (slice_index_or xs i 0)
here n xs P i lt p = subst P (get_or_default xs i n 0 lt) p

-- and at the end
pub at_end : (n : ℕ) (xs : List ℕ) (P : ℕ → Type 0) (i : ℕ) → length xs ≤ i → P (slice_index_or xs i n) → P n
at_end n xs P i ge p = subst P (get_or_past xs i n ge) p
