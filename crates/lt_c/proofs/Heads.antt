-- The functions at the head of an emitted file.
use Rattle.std.proofs.Common.{◌≡◌, ℕ, zero, suc, ◌+◌, ◌-◌, ◌*◌, ◌%◌, ◌/◌, ◌^◌, ◌<◌, ◌≤◌, Bool, true, false, Option, Some, None, refl, sym, ap, ◌∙◌, arith, ℤ, pos, negsuc, FitsSigned, to_z, w64}
use Rattle.std.specs.Prelude.{nat_eq, nat_lt, nat_le, ◌-ℤ◌, neg_ℤ, nat_abs, int_div, int_rem, int_le, if◌then◌else◌}
use Rattle.std.specs.Option.{option_and_then}
use Rattle.std.specs.Int.{cast_unsigned, int_wrap}
use Rattle.std.proofs.lemmas.Bool.Decides.{nat_tests}
use Rattle.std.proofs.Math.Facts.{to_z-neg}
use native.Mathlib.Nat.{div-le_self}
use Rattle.std.proofs.Math.Nat.{div-lt_self, div-one, mod-one}
use Rattle.std.proofs.lemmas.Int.{ints, int_wrap_fits, fits_signed_from_abs, to_z_pos, wrapping_add_is, wrapping_sub_is, wrapping_mul_is, wrapping_neg_is}
use Rattle.lt_base.specs.Operators.{int_eq, wrap}
use Rattle.lt_c.specs.Tree.{Helper, h_add, h_sub, h_mul, h_div, h_mod, h_min, h_max, h_gcd}
use Rattle.lt_c.specs.Meaning.{helper}
use Rattle.lt_base.specs.Operators.{gcd, gcd_within}
use Rattle.lt_c.specs.Head.{Number, signed, unsigned, LocalFrame, fits, unless_overflow, as_int, on_ints, quotient_of, remainder_of, own_y, aid_signed, aid_neg, aid_size, after_turns, act_after, next_pair, aid_value, helper_value, HeadIsSound}

fits_negative : (k : ℕ) → k < 2 ^ 63 → unless_overflow (negsuc k) ≡ Some (signed (negsuc k))
fits_negative k l = let t : nat_lt k (2 ^ 63) ≡ true = grind (arith, nat_tests, l) in ap (λ (b : Bool). if b then Some (signed (negsuc k)) else None) t

int_of : (n : ℕ) → n < 2 ^ 63 → as_int (Some (unsigned n)) ≡ Some (signed (pos n))
int_of n l = let t : nat_lt n (2 ^ 63) ≡ true = grind (arith, nat_tests, l) in ap (λ (b : Bool). if b then Some (signed (pos n)) else None) t

minus_one : (k : ℕ) → (negsuc 0 -ℤ pos k) ≡ negsuc k
minus_one zero = refl
minus_one (suc k) = ap negsuc (omega arith)

low : (n : ℕ) → n < 2 ^ 63 → as_int (Some (unsigned n)) ≡ Some (signed (to_z w64 n))
low n l = int_of n l ∙ ap (λ z. Some (signed z)) (sym (to_z_pos w64 n l))

high : (n : ℕ) → 2 ^ 63 ≤ n → n < 2 ^ 64 → on_ints (λ m n. unless_overflow (m -ℤ n)) (Some (signed (negsuc 0))) (as_int (Some (unsigned ((18446744073709551615 + (2 ^ 64 - n)) % 2 ^ 64)))) ≡ Some (signed (to_z w64 n))
high n l h =
    let k = 18446744073709551615 - n in
    let e : (18446744073709551615 + (2 ^ 64 - n)) % 2 ^ 64 ≡ k = omega (arith, l, h) in
    let s : k < 2 ^ 63 = omega (arith, l, h) in
    let back : n ≡ 2 ^ 64 - suc k = omega (arith, l, h) in
    let z : negsuc k ≡ to_z w64 n = sym (ap (to_z w64) back ∙ to_z-neg w64 k s) in
    ap (λ m. on_ints (λ m n. unless_overflow (m -ℤ n)) (Some (signed (negsuc 0))) (as_int (Some (unsigned m)))) e
    ∙ ap (λ o. on_ints (λ m n. unless_overflow (m -ℤ n)) (Some (signed (negsuc 0))) o) (int_of k s)
    ∙ ap unless_overflow (minus_one k) ∙ fits_negative k s ∙ ap (λ y. Some (signed y)) z

pub signed_is : (n : ℕ) → n < 2 ^ 64 → aid_value aid_signed (Some (unsigned n)) ≡ Some (signed (to_z w64 n))
signed_is n h = go (nat_le n 9223372036854775807) refl
  where
    go : (b : Bool) → nat_le n 9223372036854775807 ≡ b → aid_value aid_signed (Some (unsigned n)) ≡ Some (signed (to_z w64 n))
    go true e = let l : n < 2 ^ 63 = grind (arith, nat_tests, e) in ap (λ (b : Bool). if b then as_int (Some (unsigned n)) else on_ints (λ m n. unless_overflow (m -ℤ n)) (Some (signed (negsuc 0))) (as_int (Some (unsigned ((18446744073709551615 + (2 ^ 64 - n)) % 2 ^ 64))))) e ∙ low n l
    go false e = let l : 2 ^ 63 ≤ n = grind (arith, nat_tests, e) in ap (λ (b : Bool). if b then as_int (Some (unsigned n)) else on_ints (λ m n. unless_overflow (m -ℤ n)) (Some (signed (negsuc 0))) (as_int (Some (unsigned ((18446744073709551615 + (2 ^ 64 - n)) % 2 ^ 64))))) e ∙ high n l h

-- ---- sums, differences and products

add_is : (turns : ℕ) (a b : ℤ) → FitsSigned w64 a → FitsSigned w64 b → helper_value turns h_add (Some (signed a)) (Some (signed b)) ≡ Some (signed (helper h_add a b))
add_is turns a b f g = signed_is ((cast_unsigned w64 a + cast_unsigned w64 b) % 2 ^ 64) (omega arith) ∙ ap (λ z. Some (signed z)) (wrapping_add_is w64 a b f g)

sub_is : (turns : ℕ) (a b : ℤ) → FitsSigned w64 a → FitsSigned w64 b → helper_value turns h_sub (Some (signed a)) (Some (signed b)) ≡ Some (signed (helper h_sub a b))
sub_is turns a b f g = signed_is ((cast_unsigned w64 a + (2 ^ 64 - cast_unsigned w64 b)) % 2 ^ 64) (omega arith) ∙ ap (λ z. Some (signed z)) (wrapping_sub_is w64 a b f g)

mul_is : (turns : ℕ) (a b : ℤ) → FitsSigned w64 a → FitsSigned w64 b → helper_value turns h_mul (Some (signed a)) (Some (signed b)) ≡ Some (signed (helper h_mul a b))
mul_is turns a b f g = signed_is ((cast_unsigned w64 a * cast_unsigned w64 b) % 2 ^ 64) (omega arith) ∙ ap (λ z. Some (signed z)) (wrapping_mul_is w64 a b f g)

plus_less : (n : ℕ) → 0 + (2 ^ 64 - n) ≡ 2 ^ 64 - n
plus_less n = omega arith

neg_is : (a : ℤ) → FitsSigned w64 a → aid_value aid_neg (Some (signed a)) ≡ Some (signed (wrap (neg_ℤ a)))
neg_is a f =
    ap (λ n. aid_value aid_signed (Some (unsigned (n % 2 ^ 64)))) (plus_less (cast_unsigned w64 a))
    ∙ signed_is ((2 ^ 64 - cast_unsigned w64 a) % 2 ^ 64) (omega arith) ∙ ap (λ z. Some (signed z)) (wrapping_neg_is w64 a f)

min_is : (turns : ℕ) (a b : ℤ) → helper_value turns h_min (Some (signed a)) (Some (signed b)) ≡ Some (signed (helper h_min a b))
min_is turns a b = go (int_le a b)
  where
    go : (t : Bool) → (if t then Some (signed a) else Some (signed b)) ≡ Some (signed (if t then a else b))
    go true = refl
    go false = refl

max_is : (turns : ℕ) (a b : ℤ) → helper_value turns h_max (Some (signed a)) (Some (signed b)) ≡ Some (signed (helper h_max a b))
max_is turns a b = go (int_le a b)
  where
    go : (t : Bool) → (if t then Some (signed b) else Some (signed a)) ≡ Some (signed (if t then b else a))
    go true = refl
    go false = refl

-- ---- quotients and remainders

fits_pos : (n : ℕ) → n < 2 ^ 63 → (fits (pos n) ≡ true) × (wrap (pos n) ≡ pos n)
fits_pos n l =
    (grind (arith, nat_tests, l), int_wrap_fits w64 (pos n) (fits_signed_from_abs w64 (pos n) l))

fits_minus : (n : ℕ) → n ≤ 2 ^ 63 → (fits (neg_ℤ (pos n)) ≡ true) × (wrap (neg_ℤ (pos n)) ≡ neg_ℤ (pos n))
fits_minus zero l = fits_pos 0 (omega arith)
fits_minus (suc n) l =
    (grind (arith, nat_tests, l), int_wrap_fits w64 (negsuc n) (omega (arith, ints, l)))

-- a divisor is neither 0 nor -1
abbrev Divides : ℤ → Type 0
Divides (pos b) = 1 ≤ b
Divides (negsuc b) = 1 ≤ b

abbrev Whole : ℤ → Type 0
Whole z = (fits z ≡ true) × (wrap z ≡ z)

quotient_fits : (a b : ℤ) → FitsSigned w64 a → Divides b → Whole (int_div a b)
quotient_fits (pos a) (pos b) f d = fits_pos (a / b) (omega (arith, ints, div-le_self a b))
quotient_fits (pos a) (negsuc b) f d = fits_minus (a / suc b) (omega (arith, ints, div-le_self a (suc b)))
quotient_fits (negsuc a) (pos b) f d = fits_minus (suc a / b) (omega (arith, ints, div-le_self (suc a) b))
quotient_fits (negsuc a) (negsuc b) f d = fits_pos (suc a / suc b) (let h = div-lt_self {n = suc a} {k = suc b} (omega arith) (omega (arith, d)) in omega (arith, ints, h))

-- whether a divisor is 0, -1 or another
data Kind (b : ℤ) : Type 0 where
  is_zero : int_eq b (pos 0) ≡ true → b ≡ pos 0 → Kind b
  is_minus : int_eq b (pos 0) ≡ false → int_eq b (negsuc 0) ≡ true → b ≡ negsuc 0 → Kind b
  other : int_eq b (pos 0) ≡ false → int_eq b (negsuc 0) ≡ false → Divides b → Kind b

not_zero : (n : ℕ) → nat_eq (suc n) 0 ≡ false
not_zero n = grind (arith, nat_tests)

kind_of : (b : ℤ) → Kind b
kind_of (pos zero) = is_zero refl refl
kind_of (pos (suc n)) = other (not_zero n) refl (omega arith)
kind_of (negsuc zero) = is_minus refl refl refl
kind_of (negsuc (suc n)) = other refl (not_zero n) (omega arith)

by_minus : (a : ℤ) → int_div a (negsuc 0) ≡ neg_ℤ a
by_minus (pos a) = ap (λ n. neg_ℤ (pos n)) (div-one a)
by_minus (negsuc a) = ap pos (div-one (suc a))

rest_by_minus : (a : ℤ) → int_rem a (negsuc 0) ≡ pos 0
rest_by_minus (pos a) = ap pos (mod-one a)
rest_by_minus (negsuc a) = ap (λ n. neg_ℤ (pos n)) (mod-one (suc a))

div_is : (turns : ℕ) (a b : ℤ) → FitsSigned w64 a → Kind b → helper_value turns h_div (Some (signed a)) (Some (signed b)) ≡ Some (signed (helper h_div a b))
div_is turns a b f (is_zero e i) =
    ap (λ (t : Bool). if t then Some (signed (pos 0)) else (if int_eq b (negsuc 0) then aid_value aid_neg (Some (signed a)) else quotient_of a b)) e
    ∙ ap (λ (t : Bool). Some (signed (if t then pos 0 else wrap (int_div a b)))) (sym e)
div_is turns a b f (is_minus e g i) =
    ap (λ (t : Bool). if t then Some (signed (pos 0)) else (if int_eq b (negsuc 0) then aid_value aid_neg (Some (signed a)) else quotient_of a b)) e
    ∙ ap (λ (t : Bool). if t then aid_value aid_neg (Some (signed a)) else quotient_of a b) g
    ∙ neg_is a f ∙ ap (λ z. Some (signed (wrap z))) (sym (by_minus a) ∙ ap (int_div a) (sym i))
    ∙ ap (λ (t : Bool). Some (signed (if t then pos 0 else wrap (int_div a b)))) (sym e)
div_is turns a b f (other e g d) =
    let w = quotient_fits a b f d in
    ap (λ (t : Bool). if t then Some (signed (pos 0)) else (if int_eq b (negsuc 0) then aid_value aid_neg (Some (signed a)) else quotient_of a b)) e
    ∙ ap (λ (t : Bool). if t then aid_value aid_neg (Some (signed a)) else quotient_of a b) g
    ∙ ap (λ (t : Bool). if t then None else unless_overflow (int_div a b)) e
    ∙ ap (λ (t : Bool). if t then Some (signed (int_div a b)) else None) w.0
    ∙ ap (λ z. Some (signed z)) (sym w.1)
    ∙ ap (λ (t : Bool). Some (signed (if t then pos 0 else wrap (int_div a b)))) (sym e)

mod_is : (turns : ℕ) (a b : ℤ) → FitsSigned w64 a → Kind b → helper_value turns h_mod (Some (signed a)) (Some (signed b)) ≡ Some (signed (helper h_mod a b))
mod_is turns a b f (is_zero e i) =
    ap (λ (t : Bool). if t then Some (signed a) else (if int_eq b (negsuc 0) then Some (signed (pos 0)) else remainder_of a b)) e
    ∙ ap (λ (t : Bool). Some (signed (if t then a else int_rem a b))) (sym e)
mod_is turns a b f (is_minus e g i) =
    ap (λ (t : Bool). if t then Some (signed a) else (if int_eq b (negsuc 0) then Some (signed (pos 0)) else remainder_of a b)) e
    ∙ ap (λ (t : Bool). if t then Some (signed (pos 0)) else remainder_of a b) g
    ∙ ap (λ z. Some (signed z)) (sym (rest_by_minus a) ∙ ap (int_rem a) (sym i))
    ∙ ap (λ (t : Bool). Some (signed (if t then a else int_rem a b))) (sym e)
mod_is turns a b f (other e g d) =
    let w = quotient_fits a b f d in
    ap (λ (t : Bool). if t then Some (signed a) else (if int_eq b (negsuc 0) then Some (signed (pos 0)) else remainder_of a b)) e
    ∙ ap (λ (t : Bool). if t then Some (signed (pos 0)) else remainder_of a b) g
    ∙ ap (λ (t : Bool). if t then None else (if fits (int_div a b) then Some (signed (int_rem a b)) else None)) e
    ∙ ap (λ (t : Bool). if t then Some (signed (int_rem a b)) else None) w.0
    ∙ ap (λ (t : Bool). Some (signed (if t then a else int_rem a b))) (sym e)

-- ---- the greatest common divisor

-- the distance of a number from 0, as bits
less_zero : (n : ℕ) → nat_lt n 0 ≡ false
less_zero n = grind (arith, nat_tests)

back : (n : ℕ) → n < 2 ^ 63 → (0 + (2 ^ 64 - cast_unsigned w64 (negsuc n))) % 2 ^ 64 ≡ suc n
back n l = omega (arith, ints, l)

own : (n : ℕ) → n < 2 ^ 63 → cast_unsigned w64 (pos n) ≡ n
own n l = omega (arith, ints, l)

size_is : (a : ℤ) → FitsSigned w64 a → aid_value aid_size (Some (signed a)) ≡ Some (unsigned (nat_abs a))
size_is (pos n) f =
    let l : n < 2 ^ 63 = omega (arith, ints, f) in
    ap (λ (b : Bool). if b then Some (unsigned ((0 + (2 ^ 64 - cast_unsigned w64 (pos n))) % 2 ^ 64)) else Some (unsigned (cast_unsigned w64 (pos n)))) (less_zero n)
    ∙ ap (λ m. Some (unsigned m)) (own n l)
size_is (negsuc n) f =
    let l : n < 2 ^ 63 = omega (arith, ints, f) in
    ap (λ m. Some (unsigned m)) (back n l)

size_small : (a : ℤ) → FitsSigned w64 a → nat_abs a ≤ 2 ^ 63
size_small (pos n) f = omega (arith, ints, f)
size_small (negsuc n) f = omega (arith, ints, f)

-- in the loop: what the parameters are, the pair of numbers, and the number that was the rest last
abbrev pair_frame : (p q : Option Number) (x y : ℕ) (z : Option Number) → LocalFrame
pair_frame p q x y z = record { for_a = p; for_b = q; for_x = Some (unsigned x); for_y = Some (unsigned y); for_z = z }

-- a number that is found by the loop
module _ (P : Option Number → Option Number) (turns : ℕ) (p q : Option Number) where
  abbrev step : LocalFrame → Option LocalFrame
  step f = act_after turns aid_value next_pair f

  loop_is : (n x y : ℕ) (z : Option Number) → y < n → option_and_then (λ f. P f.for_x) (after_turns n step own_y (pair_frame p q x y z)) ≡ P (Some (unsigned (gcd_within n x y)))
  loop_is zero x y z l = absurd (omega (arith, l))
  loop_is (suc n) x zero z l = refl
  loop_is (suc n) x (suc y) z l = loop_is n (suc y) (x % suc y) (Some (unsigned (x % suc y))) (omega (arith, l))

gcd_small : (n x y : ℕ) → x < 2 ^ 64 → y < 2 ^ 64 → gcd_within n x y < 2 ^ 64
gcd_small zero x y h k = h
gcd_small (suc n) x zero h k = h
gcd_small (suc n) x (suc y) h k = gcd_small n (suc y) (x % suc y) k (omega (arith, k))

-- more turns change nothing
same_within : (n m x y : ℕ) → y < n → y < m → gcd_within n x y ≡ gcd_within m x y
same_within zero m x y l k = absurd (omega (arith, l))
same_within (suc n) zero x y l k = absurd (omega (arith, k))
same_within (suc n) (suc m) x zero l k = refl
same_within (suc n) (suc m) x (suc y) l k = same_within n m (suc y) (x % suc y) (omega (arith, l)) (omega (arith, k))

gcd_same : (n x y : ℕ) → y < n → gcd_within n x y ≡ gcd x y
gcd_same n x y l = same_within n (suc y) x y l (omega arith)

wrap_pos : (n : ℕ) → n < 2 ^ 64 → to_z w64 n ≡ int_wrap w64 (pos n)
unfolding int_wrap
wrap_pos n h = let e : n ≡ n % 2 ^ 64 = omega arith in ap (to_z w64) e

gcd_value : (turns : ℕ) → 2 ^ 63 < turns → (a b : ℤ) → FitsSigned w64 a → FitsSigned w64 b → helper_value turns h_gcd (Some (signed a)) (Some (signed b)) ≡ Some (signed (helper h_gcd a b))
gcd_value turns t a b f g =
    let p = Some (signed a) in
    let q = Some (signed b) in
    let x = nat_abs a in
    let y = nat_abs b in
    let u : x ≤ 2 ^ 63 = size_small a f in
    let v : y ≤ 2 ^ 63 = size_small b g in
    let l : y < turns = omega (arith, t, v) in
    let s : gcd_within turns x y < 2 ^ 64 = gcd_small turns x y (omega (arith, u)) (omega (arith, v)) in
    (λ i. option_and_then (λ f. aid_value aid_signed f.for_x) (after_turns turns (λ f. act_after turns aid_value next_pair f) own_y (record { for_a = p; for_b = q; for_x = size_is a f i; for_y = size_is b g i; for_z = None })))
    ∙ loop_is (aid_value aid_signed) turns p q turns x y None l
    ∙ signed_is (gcd_within turns x y) s
    ∙ ap (λ z. Some (signed z)) (wrap_pos (gcd_within turns x y) s ∙ ap (λ n. wrap (pos n)) (gcd_same turns x y l))

helps : (turns : ℕ) → 2 ^ 63 < turns → (h : Helper) → (a b : ℤ) → FitsSigned w64 a → FitsSigned w64 b → helper_value turns h (Some (signed a)) (Some (signed b)) ≡ Some (signed (helper h a b))
helps turns t h_add a b f g = add_is turns a b f g
helps turns t h_sub a b f g = sub_is turns a b f g
helps turns t h_mul a b f g = mul_is turns a b f g
helps turns t h_div a b f g = div_is turns a b f (kind_of b)
helps turns t h_mod a b f g = mod_is turns a b f (kind_of b)
helps turns t h_min a b f g = min_is turns a b
helps turns t h_max a b f g = max_is turns a b
helps turns t h_gcd a b f g = gcd_value turns t a b f g

pub head_is_sound : HeadIsSound
head_is_sound = record { negates = neg_is; helps = helps }
