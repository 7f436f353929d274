-- The first line feed, as a search finds it.
use Rattle.std.proofs.Common.{◌≡◌, ◌≢◌, ℕ, Bool, true, false, cond, nat_lt, List, length, Option, Some, None, refl, sym, ap, ◌∙◌, arith}
use Rattle.std.proofs.lemmas.Bool.Decides.{nat_tests}
use Rattle.std.proofs.lemmas.List.Sums.{position_or_len_is}
use Rattle.std.specs.List.{position, position_or_len}
use Rattle.memchr.specs.Find.{IsFirstByte, is_byte}
use Rattle.lt_rows.specs.Rows.{is_line_feed}
use Rattle.lt_rows.proofs.Readback.{position_is}

not_true : (test : Bool) → test ≢ true → test ≡ false
not_true true differs = absurd (differs refl)
not_true false differs = refl

pub first_feed : (bytes : List ℕ) (found : Option ℕ) → IsFirstByte (is_byte 10) bytes found → found ≡ position is_line_feed bytes
first_feed bytes None is =
    let at : position_or_len is_line_feed bytes ≡ length bytes =
    position_or_len_is is_line_feed bytes (length bytes) 0 (omega arith) (λ k within. not_true _ (is k (omega arith) within)) (λ within. absurd (omega (arith, within))) in
    let test : nat_lt (length bytes) (length bytes) ≡ false = grind (arith, nat_tests) in
    sym (ap (λ (n : ℕ). cond (nat_lt n (length bytes)) (Some n) None) at ∙ ap (λ (t : Bool). cond t (Some (length bytes)) None) test)
first_feed bytes (Some k) is = sym (position_is is_line_feed bytes k 0 is.0.high is.1 (λ j before. not_true _ (is.0.before j (omega arith) before)))
