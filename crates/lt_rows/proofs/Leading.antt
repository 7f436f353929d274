-- The number at the head of a text.
use Rattle.std.proofs.Common.{◌≡◌, ℕ, suc, ◌+◌, ◌<◌, ◌≤◌, ◌^◌, ◌%◌, ◌&&◌, Bool, true, false, cond, List, [], ◌∷◌, length, take, refl, ap, ◌∙◌, arith}
use Rattle.std.specs.Char.{is_ascii_digit}
use Rattle.std.specs.List.{prefix_len}
use Rattle.std.specs.Str.Parse.{digits_value}
use Rattle.std.proofs.lemmas.Str.Parse.{digits_value_short}
use Rattle.lt_base.specs.Digits.{all_digits, read_on}
use Rattle.lt_base.proofs.Digits.{numerals}

-- the digits at the head are digits
pub head_digits : (s : List ℕ) → all_digits (take (prefix_len is_ascii_digit s) s) ≡ true
head_digits [] = refl
head_digits (c ∷ cs) = by (is_ascii_digit c) refl (head_digits cs)
  where
    by : (b : Bool) → is_ascii_digit c ≡ b → all_digits (take (prefix_len is_ascii_digit cs) cs) ≡ true → all_digits (take (cond b (1 + prefix_len is_ascii_digit cs) 0) (c ∷ cs)) ≡ true
    by true e rest =
        let next : 1 + prefix_len is_ascii_digit cs ≡ suc (prefix_len is_ascii_digit cs) = omega arith in
        ap (λ n. all_digits (take n (c ∷ cs))) next ∙ ap (λ b. b && all_digits (take (prefix_len is_ascii_digit cs) cs)) e ∙ rest
    by false e rest = refl

-- few of them are a number in range, as it is read
pub few_digits : (ds : List ℕ) → all_digits ds ≡ true → length ds ≤ 15 → read_on 0 ds < 1000000000000000
few_digits ds all few = digits_value_short numerals ds 15 all few

pub digits_read : (ds : List ℕ) → all_digits ds ≡ true → length ds ≤ 15 → digits_value 10 ds % 2 ^ 64 ≡ read_on 0 ds
digits_read ds all few =
    let same : read_on 0 ds ≡ digits_value 10 ds = numerals.same ds (numerals.to ds all) in
    let low = few_digits ds all few in
    omega (arith, same, low)
