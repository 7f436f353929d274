-- Numbers of digits, and the digits at the front of a text.
use Rattle.std.proofs.Common.{◌≡◌, ℕ, ◌≤◌, ◌<◌, Bool, true, false, cond, ◌&&◌, List, [], ◌∷◌, length, take, take_while, Option, Some, MatchOption, refl, sym, ap, subst, ◌∙◌, arith}
use Rattle.std.proofs.lemmas.List.Folds.{length-prefix_len}
use Rattle.std.proofs.lemmas.List.Sums.{take_while-cons}
use Rattle.lt_base.specs.Digits.{is_digit, all_digits, read_on, number_of, up_to}
use Rattle.lt_base.proofs.Digits.{number_is, up_to_tells}

-- the number of some digits, if it is at most this one
pub number_tells : (most : ℕ) (digits : List ℕ) (found : Option ℕ) → 1 ≤ length digits → all_digits digits ≡ true → found ≡ up_to most (number_of digits)
    → MatchOption found (most < read_on 0 digits) (λ n. (n ≡ read_on 0 digits) × (n ≤ most))
number_tells most digits found some are is =
    let here : found ≡ up_to most (Some (read_on 0 digits)) = is ∙ ap (up_to most) (number_is digits (omega (arith, some)) are) in
    subst (λ o. MatchOption o (most < read_on 0 digits) (λ n. (n ≡ read_on 0 digits) × (n ≤ most))) (sym here) (up_to_tells most (read_on 0 digits))

digits_while : (bytes : List ℕ) → all_digits (take_while is_digit bytes) ≡ true
digits_while [] = refl
digits_while (b ∷ bytes) = ap all_digits (take_while-cons is_digit b bytes) ∙ by (is_digit b) refl (digits_while bytes)
  where
    by : (test : Bool) → is_digit b ≡ test → all_digits (take_while is_digit bytes) ≡ true → all_digits (cond test (b ∷ take_while is_digit bytes) []) ≡ true
    by true is rest = ap (λ t. t && all_digits (take_while is_digit bytes)) is ∙ rest
    by false is rest = refl

-- as many bytes of the front as there are digits are digits
pub digits_ahead : (bytes : List ℕ) → all_digits (take (length (take_while is_digit bytes)) bytes) ≡ true
digits_ahead bytes = ap (λ n. all_digits (take n bytes)) (length-prefix_len is_digit bytes) ∙ digits_while bytes
