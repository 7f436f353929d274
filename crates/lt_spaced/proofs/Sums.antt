-- Sums over the numbers below n.
use Rattle.std.proofs.Common.{◌≡◌, ℕ, zero, suc, ◌+◌, ◌*◌, ◌<◌, ◌≤◌, inl, inr, subst, arith}
use Rattle.std.proofs.lemmas.Bool.{cases_lt}

abbrev pub sum_below : (ℕ → ℕ) → ℕ → ℕ
sum_below f zero = 0
sum_below f (suc n) = sum_below f n + f n

pub sum_more : (f g : ℕ → ℕ) (n : ℕ) → ((i : ℕ) → f i ≤ g i) → sum_below f n ≤ sum_below g n
sum_more f g zero more = omega arith
sum_more f g (suc n) more = let rest = sum_more f g n more in let last = more n in omega (arith, rest, last)

-- one of them is more by one at least
pub sum_one_more : (f g : ℕ → ℕ) (n i : ℕ) → i < n → ((k : ℕ) → f k ≤ g k) → f i + 1 ≤ g i → sum_below f n + 1 ≤ sum_below g n
sum_one_more f g zero i low more one = absurd (omega (arith, low))
sum_one_more f g (suc n) i low more one = elim (cases_lt i n) [
  | inl less ↦ let rest = sum_one_more f g n i less more one in let last = more n in omega (arith, rest, last)
  | inr le ↦
      let same : i ≡ n = omega (arith, low, le) in
      let here : f n + 1 ≤ g n = subst (λ (k : ℕ). f k + 1 ≤ g k) same one in
      let rest = sum_more f g n more in
      omega (arith, rest, here)
]

pub sum_at_most : (f : ℕ → ℕ) (n most : ℕ) → ((i : ℕ) → i < n → f i ≤ most) → sum_below f n ≤ n * most
sum_at_most f zero most each = omega arith
sum_at_most f (suc n) most each =
    let rest = sum_at_most f n most (λ i low. each i (omega (arith, low))) in
    let last = each n (omega arith) in
    let product : suc n * most ≡ n * most + most = omega arith in
    omega (arith, rest, last, product)

pub sum_zero : (n : ℕ) → sum_below (λ i. 0) n ≡ 0
sum_zero zero = omega arith
sum_zero (suc n) = let rest = sum_zero n in omega (arith, rest)
