-- Lemmas on the tables.
use Rattle.std.proofs.Common.{◌≡◌, ℕ, zero, suc, ◌-◌, ◌/◌, ◌%◌, ◌^◌, ◌<◌, refl, ap, arith, ℤ, pos, negsuc, FitsSigned, to_z, of_z, w64}
use Rattle.std.specs.Prelude.{int_div, neg_ℤ}
use Rattle.std.specs.Int.{int_wrap, int_wrapping_div, IsGcd}
use Rattle.std.proofs.lemmas.Nat.Gcd.{IsGcd-from_zero, IsGcd-from_mod}
use Rattle.std.proofs.lemmas.Int.{ints}
use native.Mathlib.Nat.{div-le_self}
use Rattle.lt_base.specs.Operators.{gcd, gcd_within}

pub gcd_is_within : (n a b : ℕ) → b < n → IsGcd a b (gcd_within n a b)
gcd_is_within zero a b h = absurd (omega arith)
gcd_is_within (suc n) a zero h = IsGcd-from_zero a zero refl
gcd_is_within (suc n) a (suc b) h = IsGcd-from_mod a (suc b) _ (gcd_is_within n (suc b) (a % suc b) (omega arith))

pub gcd_is : (a b : ℕ) → IsGcd a b (gcd a b)
gcd_is a b = gcd_is_within (suc b) a b (omega arith)

pub wrap_pos : (n : ℕ) → n < 2 ^ 64 → to_z w64 n ≡ int_wrap w64 (pos n)
unfolding int_wrap
wrap_pos n h = let e : n ≡ n % 2 ^ 64 = omega arith in ap (to_z w64) e

wrap_neg : (n : ℕ) → n < 2 ^ 64 → to_z w64 (2 ^ 64 - suc n) ≡ int_wrap w64 (negsuc n)
unfolding int_wrap
wrap_neg n h = let e : 2 ^ 64 - suc n ≡ 2 ^ 64 - 1 - n % 2 ^ 64 = omega arith in ap (to_z w64) e

wrap_minus : (n : ℕ) → n < 2 ^ 64 → to_z w64 (of_z w64 (neg_ℤ (pos n))) ≡ int_wrap w64 (neg_ℤ (pos n))
wrap_minus zero h = wrap_pos zero h
wrap_minus (suc n) h = wrap_neg n (omega arith)

pub wrap_div : (a b : ℤ) → FitsSigned w64 a → int_wrapping_div w64 a b ≡ int_wrap w64 (int_div a b)
wrap_div (pos a) (pos b) f = wrap_pos (a / b) (omega (arith, ints, div-le_self a b))
wrap_div (pos a) (negsuc b) f = wrap_minus (a / suc b) (omega (arith, ints, div-le_self a (suc b)))
wrap_div (negsuc a) (pos b) f = wrap_minus (suc a / b) (omega (arith, ints, div-le_self (suc a) b))
wrap_div (negsuc a) (negsuc b) f = wrap_pos (suc a / suc b) (omega (arith, ints, div-le_self (suc a) (suc b)))
