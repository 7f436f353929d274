-- Sums, and how many numbers pass a test.
use Rattle.std.proofs.Common.{◌≡◌, ◌≢◌, ℕ, zero, suc, ◌+◌, ◌*◌, ◌<◌, ◌≤◌, inl, inr, Bool, true, false, ◌&&◌, ◌||◌, not, ◌==◌, nat_lt, if◌then◌else◌, refl, sym, ◌∙◌, ap, subst, arith, eq-eqb, ne_eqb, lt-ltb, add-one, add-zero}
use Rattle.std.proofs.Math.Nat.{suc-mul}
use Rattle.lt_arch.specs.Deeds.{all_below, some_below}
use Rattle.lt_arch.proofs.Changes.{same_or_not}
use Rattle.lt_base.specs.Truths.{how_many}

-- the sum of what f gives below n
abbrev pub sum_below : (f : ℕ → ℕ) (n : ℕ) → ℕ
sum_below f zero = 0
sum_below f (suc n) = sum_below f n + f n

pub sum_le : (f g : ℕ → ℕ) (n : ℕ) → ((i : ℕ) → i < n → g i ≤ f i) → sum_below g n ≤ sum_below f n
sum_le f g zero h = omega arith
sum_le f g (suc n) h =
    let rest : sum_below g n ≤ sum_below f n = sum_le f g n (λ i lt. h i (omega arith)) in
    let last : g n ≤ f n = h n (omega arith) in
    omega (arith, rest, last)

pub sum_less : (f g : ℕ → ℕ) (n k : ℕ) → k < n → g k + 1 ≤ f k → ((i : ℕ) → i < n → i ≢ k → g i ≤ f i) → sum_below g n + 1 ≤ sum_below f n
sum_less f g zero k lt less h = absurd (omega arith)
sum_less f g (suc n) k lt less h = elim (same_or_not k n) [
  | inl e ↦
      let rest : sum_below g n ≤ sum_below f n = sum_le f g n (λ i below. h i (omega arith) (λ same. absurd (omega (arith, same, e, below)))) in
      let last : g n + 1 ≤ f n = subst (λ i. g i + 1 ≤ f i) e less in
      omega (arith, rest, last)
  | inr ne ↦
      let rest : sum_below g n + 1 ≤ sum_below f n = sum_less f g n k (omega (arith, ne, lt)) less (λ i below other. h i (omega arith) other) in
      let last : g n ≤ f n = h n (omega arith) (λ same. ne (sym same)) in
      omega (arith, rest, last)
]

pub sum_most : (f : ℕ → ℕ) (n k : ℕ) → ((i : ℕ) → i < n → f i ≤ k) → sum_below f n ≤ n * k
sum_most f zero k h = omega arith
sum_most f (suc n) k h =
    let rest : sum_below f n ≤ n * k = sum_most f n k (λ i lt. h i (omega arith)) in
    let last : f n ≤ k = h n (omega arith) in
    rw (suc-mul n k) (omega (arith, rest, last))

pub sum_none : (f : ℕ → ℕ) (n : ℕ) → ((i : ℕ) → i < n → f i ≡ 0) → sum_below f n ≡ 0
sum_none f zero h = refl
sum_none f (suc n) h =
    let rest : sum_below f n ≡ 0 = sum_none f n (λ i lt. h i (omega arith)) in
    let last : f n ≡ 0 = h n (omega arith) in
    omega (arith, rest, last)

-- How many pass.

pub how_many-same : (p q : ℕ → Bool) (n : ℕ) → ((k : ℕ) → k < n → p k ≡ q k) → how_many p n ≡ how_many q n
how_many-same p q zero h = refl
how_many-same p q (suc n) h = λ i. how_many-same p q n (λ k lt. h k (omega arith)) i + (if h n (omega arith) i then 1 else 0)

one_at_most : (b : Bool) → (if b then 1 else 0) ≤ 1
one_at_most true = omega arith
one_at_most false = omega arith

pub how_many_yes : (p : ℕ → Bool) (n : ℕ) → p n ≡ true → how_many p (n + 1) ≡ how_many p n + 1
how_many_yes p n h = rw (add-one n) (λ i. how_many p n + (if h i then 1 else 0))

pub how_many_no : (p : ℕ → Bool) (n : ℕ) → p n ≡ false → how_many p (n + 1) ≡ how_many p n
how_many_no p n h = rw (add-one n) ((λ i. how_many p n + (if h i then 1 else 0)) ∙ add-zero (how_many p n))

pub how_many-most : (p : ℕ → Bool) (n : ℕ) → how_many p n ≤ n
how_many-most p zero = omega arith
how_many-most p (suc n) = let rest : how_many p n ≤ n = how_many-most p n in let last = one_at_most (p n) in omega (arith, rest, last)

pub how_many-none : (p : ℕ → Bool) (n : ℕ) → ((k : ℕ) → k < n → p k ≡ false) → how_many p n ≡ 0
how_many-none p zero h = refl
how_many-none p (suc n) h = λ i. how_many-none p n (λ k lt. h k (omega arith)) i + (if h n (omega arith) i then 1 else 0)

-- one more number passes
pub how_many-one : (p q : ℕ → Bool) (n c : ℕ) → c < n → p c ≡ false → q c ≡ true → ((k : ℕ) → k < n → k ≢ c → p k ≡ q k) → how_many q n ≡ how_many p n + 1
how_many-one p q zero c lt off on h = absurd (omega arith)
how_many-one p q (suc n) c lt off on h = elim (same_or_not c n) [
  | inl e ↦
      let rest : how_many p n ≡ how_many q n = how_many-same p q n (λ k below. h k (omega arith) (λ same. absurd (omega (arith, same, e, below)))) in
      let off' : p n ≡ false = subst (λ k. p k ≡ false) e off in
      let on' : q n ≡ true = subst (λ k. q k ≡ true) e on in
      let first : how_many q n + (if q n then 1 else 0) ≡ how_many p n + 1 = λ i. sym rest i + (if on' i then 1 else 0) in
      let last : how_many p n + (if p n then 1 else 0) ≡ how_many p n + 0 = λ i. how_many p n + (if off' i then 1 else 0) in
      omega (arith, first, last)
  | inr ne ↦
      let rest : how_many q n ≡ how_many p n + 1 = how_many-one p q n c (omega (arith, ne, lt)) off on (λ k below other. h k (omega arith) other) in
      let last : p n ≡ q n = h n (omega arith) (λ same. ne (sym same)) in
      let both = ap (λ (b : Bool). if◌then◌else◌ {A = ℕ} b 1 0) last in
      omega (arith, rest, both)
]

pub how_many-within : (p q : ℕ → Bool) (n : ℕ) → how_many (λ c. q c && p c) n ≤ how_many q n
how_many-within p q zero = omega arith
how_many-within p q (suc n) = let rest : how_many (λ c. q c && p c) n ≤ how_many q n = how_many-within p q n in let last = by (q n) (p n) in omega (arith, rest, last)
  where
    by : (a b : Bool) → (if a && b then 1 else 0) ≤ (if a then 1 else 0)
    by true true = omega arith
    by true false = omega arith
    by false b = omega arith

-- all of those that are asked pass, exactly where as many pass as are asked
pub all_by_count : (asked p : ℕ → Bool) (n : ℕ) → all_below (λ c. not (asked c) || p c) n ≡ (how_many (λ c. asked c && p c) n == how_many asked n)
all_by_count asked p zero = refl
all_by_count asked p (suc n) = by (asked n) (p n) (all_below (λ c. not (asked c) || p c) n) (how_many (λ c. asked c && p c) n) (how_many asked n) (all_by_count asked p n) (how_many-within p asked n)
  where
    by : (a b rest : Bool) (some all : ℕ) → rest ≡ (some == all) → some ≤ all
        → ((not a || b) && rest) ≡ (some + (if a && b then 1 else 0) == all + (if a then 1 else 0))
    by true true rest some all is le = is ∙ more some all
      where
        more : (x y : ℕ) → (x == y) ≡ (x + 1 == y + 1)
        more x y = elim (same_or_not x y) [ inl e ↦ eq-eqb x y e ∙ sym (eq-eqb (x + 1) (y + 1) (omega (arith, e))) | inr ne ↦ ne_eqb x y ne ∙ sym (ne_eqb (x + 1) (y + 1) (λ e. ne (omega (arith, e)))) ]
    by true false rest some all is le = sym (ne_eqb (some + 0) (all + 1) (λ e. absurd (omega (arith, e, le))))
    by false b rest some all is le = is ∙ same some all
      where
        same : (x y : ℕ) → (x == y) ≡ (x + 0 == y + 0)
        same x y = elim (same_or_not x y) [ inl e ↦ eq-eqb x y e ∙ sym (eq-eqb (x + 0) (y + 0) (omega (arith, e))) | inr ne ↦ ne_eqb x y ne ∙ sym (ne_eqb (x + 0) (y + 0) (λ e. ne (omega (arith, e)))) ]

-- some passes, exactly where the count is not 0
pub some_by_count : (p : ℕ → Bool) (n : ℕ) → some_below p n ≡ nat_lt 0 (how_many p n)
some_by_count p zero = refl
some_by_count p (suc n) = by (p n) (some_below p n) (how_many p n) (some_by_count p n)
  where
    by : (b rest : Bool) (count : ℕ) → rest ≡ nat_lt 0 count → (b || rest) ≡ nat_lt 0 (count + (if b then 1 else 0))
    by true rest count is = sym (lt-ltb 0 (count + 1) (omega arith))
    by false rest count is = is ∙ ap (λ n. nat_lt 0 n) (same count)
      where
        same : (x : ℕ) → x ≡ x + 0
        same x = omega arith
