-- Which numbers are below another.
use Rattle.std.proofs.Common.{◌≡◌, ◌≢◌, ℕ, suc, ◌+◌, ◌<◌, true, false, arith, inl, inr}
use Rattle.std.specs.Prelude.{nat_lt}
use Rattle.std.proofs.lemmas.Bool.Decides.{leb_tells}

pub lt_none : (c : ℕ) → nat_lt c 0 ≡ false
lt_none c = elim (leb_tells (suc c) 0) [ inl h ↦ absurd (omega (arith, h.1)) | inr h ↦ h.0 ]

pub lt_here : (i : ℕ) → nat_lt i (i + 1) ≡ true
lt_here i = elim (leb_tells (suc i) (i + 1)) [ inl h ↦ h.0 | inr h ↦ absurd (omega (arith, h.1)) ]

pub lt_self : (i : ℕ) → nat_lt i i ≡ false
lt_self i = elim (leb_tells (suc i) i) [ inl h ↦ absurd (omega (arith, h.1)) | inr h ↦ h.0 ]

pub lt_other : (c i : ℕ) → c ≢ i → nat_lt c (i + 1) ≡ nat_lt c i
lt_other c i ne = elim (leb_tells (suc c) i) [
  | inl h ↦ elim (leb_tells (suc c) (i + 1)) [ inl k ↦ cc (h.0, k.0) | inr k ↦ absurd (omega (arith, h.1, k.1)) ]
  | inr h ↦ elim (leb_tells (suc c) (i + 1)) [ inl k ↦ absurd (ne (omega (arith, h.1, k.1))) | inr k ↦ cc (h.0, k.0) ]
]

pub lt_yes : (c i : ℕ) → c < i → nat_lt c i ≡ true
lt_yes c i h = elim (leb_tells (suc c) i) [ inl e ↦ e.0 | inr e ↦ absurd (omega (arith, e.1, h)) ]
