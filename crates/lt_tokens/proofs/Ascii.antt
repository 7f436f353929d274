-- Words are ASCII.
use Rattle.std.proofs.Common.{◌≡◌, ℕ, ◌<◌, ◌≤◌, true, false, nat_lt, List, length, get_or, take, refl, ap, arith, ltb-true, ltb-false}
use Rattle.std.specs.List.{prefix_len, take_while}
use Rattle.std.specs.Str.{IsUtf8}
use Rattle.std.proofs.lemmas.List.{get_or-take, get_or_past}
use Rattle.std.proofs.lemmas.List.Folds.{length-prefix_len}
use Rattle.std.proofs.lemmas.List.Sums.{prefix_len_passes}
use Rattle.std.proofs.lemmas.Str.{IsUtf8-from_ascii}
use Rattle.lt_tokens.specs.Text.{is_word}

pub small : (b : ℕ) → is_word b ≡ true → b < 128
small b h = grind arith

pub ascii_word : (bs : List ℕ) → IsUtf8 (take (length (take_while is_word bs)) bs)
ascii_word bs = IsUtf8-from_ascii (take (length (take_while is_word bs)) bs) (λ i. by i)
  where
    by : (i : ℕ) → get_or (take (length (take_while is_word bs)) bs) i 0 < 128
    by i =
        let n = length (take_while is_word bs) in
        let e : n ≡ prefix_len is_word bs = length-prefix_len is_word bs in
        elim (nat_lt i n) as (λ t. nat_lt i n ≡ t → get_or (take n bs) i 0 < 128) [
          | true ↦ λ is.
              let lt : i < n = ltb-true i n is in
              let k : get_or bs i 0 < 128 = small (get_or bs i 0) (prefix_len_passes is_word bs i 0 (omega arith)) in
              omega (arith, k, get_or-take n bs i 0 lt)
          | false ↦ λ is.
              let ge : n ≤ i = ltb-false i n is in
              let l : length (take n bs) ≤ i = omega (arith, ap (λ m. length (take m bs)) e) in
              omega (arith, get_or_past (take n bs) i 0 l)
        ] refl
