-- A number, read from the left, and back from what is written of it.
use Rattle.std.proofs.Common.{◌≡◌, ℕ, ◌+◌, ◌-◌, ◌*◌, ◌^◌, ◌≤◌, ◌<◌, Bool, true, false, if◌then◌else◌, ◌&&◌, List, [], ◌∷◌, length, decimal, Option, Some, None, refl, ap, subst, ◌∙◌, arith, nat_le, leb-true}
use Rattle.std.specs.Prelude.{unwrap_or, MatchOption, IfSome}
use Rattle.std.proofs.lemmas.Str.Parse.{IsNumeralModel, numerals_by_fold}
use Rattle.std.proofs.lemmas.Fmt.{digits_decimal, digits_value-decimal, decimal_nonempty}
use Rattle.lt_base.specs.Digits.{is_digit, all_digits, read_on, number_of, up_to}

-- the number, read on from n over the rest of the digits
abbrev pub read_rest : ℕ → List ℕ → Option ℕ
read_rest n cs = if all_digits cs then Some (read_on n cs) else None

pub at_start : (bs : List ℕ) → 0 < length bs → number_of bs ≡ read_rest 0 bs
at_start [] h = absurd (omega arith)
at_start (c ∷ cs) h = refl

le-false : (m n : ℕ) → m < n → nat_le n m ≡ false
le-false m n h = grind arith

le-true : (m n : ℕ) → n ≤ m → nat_le n m ≡ true
le-true m n h = grind arith

pub is_digit-true : (c : ℕ) → 48 ≤ c → c ≤ 57 → is_digit c ≡ true
is_digit-true c h g = rw (le-true c 48 h, le-true 57 c g) refl

pub is_digit-low : (c : ℕ) → c < 48 → is_digit c ≡ false
is_digit-low c h = rw (le-false c 48 h) refl

pub is_digit-high : (c : ℕ) → 57 < c → is_digit c ≡ false
is_digit-high c h = by (nat_le 48 c) (le-false 57 c h)
  where
    by : (b : Bool) → nat_le c 57 ≡ false → (b && nat_le c 57) ≡ false
    by true e = e
    by false e = refl

pub one_more : (n c : ℕ) (cs : List ℕ) → is_digit c ≡ true → read_rest n (c ∷ cs) ≡ read_rest (n * 10 + (c - 48)) cs
one_more n c cs h = rw h refl

pub no_digit : (most n c : ℕ) (cs : List ℕ) → is_digit c ≡ false → up_to most (read_rest n (c ∷ cs)) ≡ None
no_digit most n c cs h = rw h refl

read_on-grows : (n : ℕ) (cs : List ℕ) → n ≤ read_on n cs
read_on-grows n [] = omega arith
read_on-grows n (c ∷ cs) = omega (arith, read_on-grows (n * 10 + (c - 48)) cs)

pub too_large : (most n : ℕ) (cs : List ℕ) → most < n → up_to most (read_rest n cs) ≡ None
too_large most n cs h = by (all_digits cs)
  where
    by : (b : Bool) → up_to most (if b then Some (read_on n cs) else None) ≡ None
    by true = rw (le-false most (read_on n cs) (omega (arith, read_on-grows n cs))) refl
    by false = refl

pub at_end : (most n : ℕ) → n ≤ most → up_to most (read_rest n []) ≡ Some n
at_end most n h = rw (le-true most n h) refl

-- a number that is read up to a bound is within it
pub up_to-bounded : (most : ℕ) (o : Option ℕ) → unwrap_or (up_to most o) 0 ≤ most
up_to-bounded most None = omega arith
up_to-bounded most (Some n) = by (nat_le n most) refl
  where
    by : (b : Bool) → nat_le n most ≡ b → unwrap_or (if b then Some n else None) 0 ≤ most
    by true e = grind arith
    by false e = omega arith

-- the number of one digit or more
pub number_is : (cs : List ℕ) → 0 < length cs → all_digits cs ≡ true → number_of cs ≡ Some (read_on 0 cs)
number_is [] some digits = absurd (omega (arith, some))
number_is (c ∷ cs) some digits = ap (λ t. if t then Some (read_on 0 (c ∷ cs)) else None) digits

-- a number up to a bound, or one past it
pub up_to_tells : (most n : ℕ) → MatchOption (up_to most (Some n)) (most < n) (λ m. (m ≡ n) × (m ≤ most))
up_to_tells most n = by (nat_le n most) refl
  where
    by : (b : Bool) → nat_le n most ≡ b → MatchOption (if b then Some n else None) (most < n) (λ m. (m ≡ n) × (m ≤ most))
    by true e = (refl, grind arith)
    by false e = grind arith

pub up_to_low : (most : ℕ) (o : Option ℕ) → IfSome (up_to most o) (λ n. n ≤ most)
up_to_low most None = tt
up_to_low most (Some n) = by (nat_le n most) refl
  where
    by : (b : Bool) → nat_le n most ≡ b → IfSome (if b then Some n else None) (λ m. m ≤ most)
    by true e = grind arith
    by false e = tt

-- what is found up to a bound is the number, and within the bound
pub up_to-some : (most : ℕ) (o : Option ℕ) (n : ℕ) → up_to most o ≡ Some n → (o ≡ Some n) × (n ≤ most)
up_to-some most None n is = absurd (cc)
up_to-some most (Some m) n is = by (nat_le m most) refl is
  where
    by : (b : Bool) → nat_le m most ≡ b → (if b then Some m else None) ≡ Some n → (Some m ≡ Some n) × (n ≤ most)
    by true e is = let same : m ≡ n = cc in (is, subst (λ k. k ≤ most) same (leb-true m most e))
    by false e is = absurd (cc)

both : (a b : Bool) → (a && b) ≡ true → (a ≡ true) × (b ≡ true)
both true b is = (refl, is)
both false b is = absurd (cc)

-- a number is written in digits
pub number_digits : (cs : List ℕ) (n : ℕ) → number_of cs ≡ Some n → all_digits cs ≡ true
number_digits [] n is = refl
number_digits (c ∷ cs) n is = by (all_digits (c ∷ cs)) is
  where
    by : (b : Bool) → (if b then Some (read_on 0 (c ∷ cs)) else None) ≡ Some n → b ≡ true
    by true is = refl
    by false is = cc

-- the first of some digits is one, and so are the others
pub digits-cons : (c : ℕ) (cs : List ℕ) → all_digits (c ∷ cs) ≡ true → (is_digit c ≡ true) × (all_digits cs ≡ true)
digits-cons c cs is = both (is_digit c) (all_digits cs) is

digit_range : (c : ℕ) → is_digit c ≡ true → (48 ≤ c) × (c ≤ 57)
digit_range c is = let parts = both (nat_le 48 c) (nat_le c 57) is in (leb-true 48 c parts.0, leb-true c 57 parts.1)

-- they are digits and numbers as the library has them
pub numerals : IsNumeralModel (λ cs. all_digits cs ≡ true) (read_on 0)
numerals = numerals_by_fold (λ cs. all_digits cs ≡ true) (record {
  empty = refl;
  parts = λ c cs is. let parts = digits-cons c cs is in (digit_range c parts.0, parts.1);
  more = λ c cs range is. ap (λ b. b && all_digits cs) (is_digit-true c range.0 range.1) ∙ is;
}) read_on (record { empty = λ n. refl; more = λ n c cs range. refl })

-- what is written of a number reads as it
pub number_back : (n : ℕ) → n < 2 ^ 64 → number_of (decimal n) ≡ Some n
number_back n low = number_is (decimal n) (decimal_nonempty n low) (digits_decimal numerals n low) ∙ ap Some (digits_value-decimal numerals n low)
