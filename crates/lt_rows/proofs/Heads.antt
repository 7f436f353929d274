-- The time at the head of a line.
use Rattle.std.proofs.Common.{◌≡◌, ◌≢◌, ℕ, ◌+◌, ◌-◌, ◌<◌, ◌≤◌, ◌^◌, ◌%◌, true, List, ◌∷◌, ◌++◌, length, get_or, take, drop, Some, sym, ap, subst, ◌∙◌, arith, add-one}
use Rattle.std.proofs.Math.Seq.{split_at}
use Rattle.std.proofs.lemmas.List.{take_rest, length-take}
use Rattle.std.specs.Char.{is_ascii_digit}
use Rattle.std.specs.List.{prefix_len}
use Rattle.std.specs.Str.Parse.{digits_value}
use Rattle.lt_base.specs.Digits.{all_digits, read_on, up_to}
use Rattle.lt_base.proofs.Digits.{number_is, at_end}
use Rattle.lt_rows.proofs.Digits.{time_is}
use Rattle.lt_rows.proofs.Leading.{head_digits, few_digits, digits_read}
use Rattle.lt_rows.specs.Written.{IsTimed}

cut_at : (xs : List ℕ) (i : ℕ) → i < length xs → xs ≡ take i xs ++ get_or xs i 0 ∷ drop (i + 1) xs
cut_at xs i within = split_at xs i 0 within ∙ ap (λ (n : ℕ). take i xs ++ get_or xs i 0 ∷ drop n xs) (sym (add-one i))

pub is_timed : (line : List ℕ) (count time : ℕ) → length line ≤ 4096 → count ≢ 0 → count ≤ 15 → count < length line → count ≡ prefix_len is_ascii_digit line
    → time ≡ digits_value 10 (take count line) % 2 ^ 64 → get_or line count 0 ≡ 44 → IsTimed line time (take (length line - (count + 1)) (drop (count + 1) line))
is_timed line count time short some few within counted is comma =
    let digits : all_digits (take count line) ≡ true = subst (λ n. all_digits (take n line) ≡ true) (sym counted) (head_digits line) in
    let size : 0 < length (take count line) = omega (arith, some, within, length-take count line) in
    let least : length (take count line) ≤ 15 = omega (arith, few, within, length-take count line) in
    let read : time ≡ read_on 0 (take count line) = is ∙ digits_read (take count line) digits least in
    let range = few_digits (take count line) digits least in
    let low : read_on 0 (take count line) ≤ 1000000000000000 = omega (arith, range) in
    record {
      digits = take count line;
      line_is = cut_at line count within ∙ (λ j. take count line ++ comma j ∷ sym (take_rest line (count + 1)) j);
      time_is =
          sym (time_is (take count line))
          ∙ ap (up_to 1000000000000000) (number_is (take count line) size digits)
          ∙ at_end 1000000000000000 (read_on 0 (take count line)) low
          ∙ ap Some (sym read);
      in_range = omega (arith, low, read);
      short = short;
    }
