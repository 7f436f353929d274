-- The folds are the greatest and the least, and how each goes on.
use Rattle.std.proofs.Common.{◌≡◌, ◌≢◌, ℕ, zero, suc, ◌<◌, ◌≤◌, ◌⊎◌, inl, inr, max, min, refl, sym, arith, eq-eqb, ne_eqb}
use Rattle.std.proofs.lemmas.Bool.Decides.{eqb_tells}
use Rattle.lt_arch.specs.Greatest.{greatest}
use Rattle.lt_timing.specs.Greatest.{greatest_but, least_but, least, other, AreExtremes}

pub same_or_not : (a b : ℕ) → (a ≡ b) ⊎ (a ≢ b)
same_or_not a b = elim (eqb_tells a b) [ inl h ↦ inl h.1 | inr h ↦ inr h.1 ]

module _ (f : ℕ → ℕ) (j i : ℕ) where
  pub greatest_but-same : i ≡ j → greatest_but f j (suc i) ≡ greatest_but f j i
  greatest_but-same e = rw (eq-eqb i j e)

  pub greatest_but-next : i ≢ j → greatest_but f j (suc i) ≡ max (greatest_but f j i) (f i)
  greatest_but-next e = rw (ne_eqb i j e)

  pub least_but-same : i ≡ j → least_but f j (suc i) ≡ least_but f j i
  least_but-same e = rw (eq-eqb i j e)

  pub least_but-next : i ≢ j → least_but f j (suc i) ≡ min (least_but f j i) (f i)
  least_but-next e = rw (ne_eqb i j e)

other-not : (j : ℕ) → other j ≢ j
other-not j = elim (same_or_not j 0) [ inl e ↦ rw e (omega arith) | inr ne ↦ rw (ne_eqb j 0 ne) (λ e. ne (sym e)) ]

other-below : (j : ℕ) → other j < 2
other-below j = elim (same_or_not j 0) [ inl e ↦ rw e (omega arith) | inr ne ↦ rw (ne_eqb j 0 ne) (omega arith) ]

-- of the greatest but one
pub greatest_but-above : (f : ℕ → ℕ) (j n i : ℕ) → i < n → i ≢ j → f i ≤ greatest_but f j n
greatest_but-above f j zero i h ne = absurd (omega arith)
greatest_but-above f j (suc n) i h ne = elim (same_or_not n j) [
  | inl e ↦ let k : f i ≤ greatest_but f j n = greatest_but-above f j n i (omega arith) ne in rw (greatest_but-same f j n e) k
  | inr other ↦ rw (greatest_but-next f j n other) (elim (same_or_not i n) [
    | inl e ↦ rw e (omega arith)
    | inr less ↦ let k : f i ≤ greatest_but f j n = greatest_but-above f j n i (omega arith) ne in omega arith
  ])
]

abbrev Met : (f : ℕ → ℕ) (j n v : ℕ) → Type 0
Met f j n v = (i : ℕ) × (i < n) × (i ≢ j) × (f i ≡ v)

greatest_but-met : (f : ℕ → ℕ) (j n : ℕ) → Met f j n (greatest_but f j n) ⊎ ((greatest_but f j n ≡ 0) × ((i : ℕ) → i < n → i ≡ j))
greatest_but-met f j zero = inr (refl, λ i h. absurd (omega arith))
greatest_but-met f j (suc n) = elim (same_or_not n j) [
  | inl e ↦ rw (greatest_but-same f j n e) (elim (greatest_but-met f j n) [
    | inl m ↦ inl (m.0, omega arith, m.2, m.3)
    | inr z ↦ inr (z.0, λ i h. elim (same_or_not i n) [ inl s ↦ rw s e | inr less ↦ z.1 i (omega arith) ])
  ])
  | inr ne ↦ rw (greatest_but-next f j n ne) (elim (greatest_but-met f j n) [
    | inl m ↦ elim (eqb_tells (max (greatest_but f j n) (f n)) (f n)) [
      | inl s ↦ inl (n, omega arith, ne, omega (arith, s.1))
      | inr s ↦ inl (m.0, omega arith, m.2, let e = m.3 in omega (arith, s.1, e))
    ]
    | inr z ↦ inl (n, omega arith, ne, omega (arith, z.0))
  ])
]

-- of the least but one
pub least_but-below : (f : ℕ → ℕ) (j n i : ℕ) → i < n → i ≢ j → least_but f j n ≤ f i
least_but-below f j zero i h ne = absurd (omega arith)
least_but-below f j (suc n) i h ne = elim (same_or_not n j) [
  | inl e ↦ let k : least_but f j n ≤ f i = least_but-below f j n i (omega arith) ne in rw (least_but-same f j n e) k
  | inr other ↦ rw (least_but-next f j n other) (elim (same_or_not i n) [
    | inl e ↦ rw e (omega arith)
    | inr less ↦ let k : least_but f j n ≤ f i = least_but-below f j n i (omega arith) ne in omega arith
  ])
]

least_but-met : (f : ℕ → ℕ) (j n : ℕ) → Met f j (max n 2) (least_but f j n)
least_but-met f j zero = (other j, let h = other-below j in omega (arith, h), other-not j, refl)
least_but-met f j (suc n) = elim (same_or_not n j) [
  | inl e ↦ rw (least_but-same f j n e) (let m = least_but-met f j n in (m.0, let h = m.1 in omega (arith, h), m.2, m.3))
  | inr ne ↦ rw (least_but-next f j n ne) (elim (eqb_tells (min (least_but f j n) (f n)) (f n)) [
    | inl s ↦ (n, omega arith, ne, omega (arith, s.1))
    | inr s ↦ let m = least_but-met f j n in (m.0, let h = m.1 in omega (arith, h), m.2, let e = m.3 in omega (arith, s.1, e))
  ])
]

-- of all
pub greatest-above : (f : ℕ → ℕ) (n i : ℕ) → i < n → f i ≤ greatest f n
greatest-above f zero i h = absurd (omega arith)
greatest-above f (suc n) i h = elim (same_or_not i n) [
  | inl e ↦ rw e (omega arith)
  | inr less ↦ let k : f i ≤ greatest f n = greatest-above f n i (omega arith) in omega arith
]

pub least-below : (f : ℕ → ℕ) (n i : ℕ) → i < n → least f n ≤ f i
least-below f zero i h = absurd (omega arith)
least-below f (suc n) i h = elim (same_or_not i n) [
  | inl e ↦ rw e (omega arith)
  | inr less ↦ let k : least f n ≤ f i = least-below f n i (omega arith) in omega arith
]

abbrev MetOf : (f : ℕ → ℕ) (n v : ℕ) → Type 0
MetOf f n v = (i : ℕ) × (i < n) × (f i ≡ v)

greatest-met : (f : ℕ → ℕ) (n : ℕ) → MetOf f n (greatest f n) ⊎ ((greatest f n ≡ 0) × (n ≡ 0))
greatest-met f zero = inr (refl, refl)
greatest-met f (suc n) = elim (greatest-met f n) [
  | inl m ↦ elim (eqb_tells (max (greatest f n) (f n)) (f n)) [
    | inl s ↦ inl (n, omega arith, omega (arith, s.1))
    | inr s ↦ inl (m.0, omega arith, let e = m.2 in omega (arith, s.1, e))
  ]
  | inr z ↦ inl (n, omega arith, omega (arith, z.0))
]

least-met : (f : ℕ → ℕ) (n : ℕ) → MetOf f (max n 1) (least f n)
least-met f zero = (0, omega arith, refl)
least-met f (suc n) = elim (eqb_tells (min (least f n) (f n)) (f n)) [
  | inl s ↦ (n, omega arith, omega (arith, s.1))
  | inr s ↦ let m = least-met f n in (m.0, let h = m.1 in omega (arith, h), let e = m.2 in omega (arith, s.1, e))
]

pub greatest_but-some : (f : ℕ → ℕ) (j n : ℕ) → 2 ≤ n → Met f j n (greatest_but f j n)
greatest_but-some f j n two = elim (greatest_but-met f j n) [
  | inl m ↦ m
  | inr z ↦ absurd (let b = other-below j in other-not j (z.1 (other j) (omega (arith, b))))
]

pub least_but-some : (f : ℕ → ℕ) (j n : ℕ) → 2 ≤ n → Met f j n (least_but f j n)
least_but-some f j n two = let m = least_but-met f j n in (m.0, let h = m.1 in omega (arith, h), m.2, m.3)

pub least-some : (f : ℕ → ℕ) (n : ℕ) → 1 ≤ n → MetOf f n (least f n)
least-some f n one = let m = least-met f n in (m.0, let h = m.1 in omega (arith, h), m.2)

pub greatest-some : (f : ℕ → ℕ) (n : ℕ) → 1 ≤ n → MetOf f n (greatest f n)
greatest-some f n one = elim (greatest-met f n) [ inl m ↦ m | inr z ↦ absurd (omega arith) ]

pub folds : (f : ℕ → ℕ) (n : ℕ) → AreExtremes f n
folds f n = record {
  greatest_but = λ j w two. record { none_greater = λ i h ne. greatest_but-above f j n i h ne; met = greatest_but-some f j n two };
  least_but = λ j w two. record { none_less = λ i h ne. least_but-below f j n i h ne; met = least_but-some f j n two };
  greatest = λ one. record { none_greater = λ i h. greatest-above f n i h; met = greatest-some f n one };
  least = λ one. record { none_less = λ i h. least-below f n i h; met = least-some f n one };
}
