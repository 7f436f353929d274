-- The bytes of a form are cut into its tokens.
use Rattle.std.proofs.Common.{◌≡◌, ℕ, ◌+◌, ◌≤◌, ◌<◌, ◌^◌, Bool, true, false, cond, List, [], ◌∷◌, ◌++◌, length, take, drop, decimal, ◌==◌, ◌||◌, ◌&&◌, Some, None, if◌then◌else◌, refl, ap, ◌∙◌, arith, rules, le-leb}
use Rattle.std.specs.List.{prefix_len, take_while}
use Rattle.std.proofs.Math.Seq.{drop-append_seam}
use Rattle.std.proofs.lemmas.Str.Parse.{IsNumeralModel, numerals_by_fold}
use Rattle.std.proofs.lemmas.Fmt.{digits_decimal, digits_value-decimal, decimal_nonempty}
use Rattle.lt_base.specs.declared.operators.Bin.TheVariants.{Sub}
use Rattle.lt_tokens.specs.declared.token.Infix.TheVariants.{Operator, Arrow}
use Rattle.lt_tokens.specs.declared.token.Token.TheVariants as token
use Rattle.lt_tokens.specs.Text as lexer
use Rattle.lt_base.specs.Digits.{is_digit, read_on}
use Rattle.lt_tokens.specs.Text.{Front, Begins, is_blank, is_letter, is_word, skip, skip_comment, starts_with, greatest_number, span, word, number, symbol, symbol_of, front, Cuts}
use Rattle.lt_print.proofs.Written.{AllPass, IsIdent}

abbrev pub Stops : List ℕ → Type 0
Stops [] = Unit {0}
Stops (b ∷ r) = is_word b ≡ false

-- a byte that is no blank and begins no comment is not skipped
skip_plain : (b : ℕ) (bs : List ℕ) → is_blank b ≡ false → (b == 45) ≡ false → skip (b ∷ bs) ≡ b ∷ bs
skip_plain b bs p q =
    ap (λ t. if t then skip bs else (if b == 45 && starts_with 45 bs then skip_comment bs else b ∷ bs)) p
    ∙ ap (λ t. if t && starts_with 45 bs then skip_comment bs else b ∷ bs) q

pub letter_plain : (b : ℕ) → is_letter b ≡ true → (is_blank b ≡ false) × ((b == 45) ≡ false) × ((b == 62) ≡ false)
letter_plain b h = (grind arith, grind arith, grind arith)

pub digit_plain : (b : ℕ) → is_digit b ≡ true → (is_blank b ≡ false) × ((b == 45) ≡ false) × ((b == 62) ≡ false) × (is_letter b ≡ false)
digit_plain b h = (grind arith, grind arith, grind arith, grind arith)

abbrev pub Halts : (ℕ → Bool) → List ℕ → Type 0
Halts p [] = Unit {0}
Halts p (x ∷ r) = p x ≡ false

run_length : (p : ℕ → Bool) (w r : List ℕ) → AllPass p w → Halts p r → prefix_len p (w ++ r) ≡ length w
run_length p [] [] a s = refl
run_length p [] (x ∷ r) a s = ap (λ b. cond b (1 + prefix_len p r) 0) s
run_length p (x ∷ w) r a s = ap (λ b. cond b (1 + prefix_len p (w ++ r)) 0) a.0 ∙ omega (arith, run_length p w r a.1 s)

take_seam : (w r : List ℕ) → take (length w) (w ++ r) ≡ w
take_seam [] r = refl
take_seam (x ∷ w) r = ap (λ z. x ∷ z) (take_seam w r)

pub span_stops : (p : ℕ → Bool) (w r : List ℕ) (k : List ℕ → List ℕ → Front) → AllPass p w → Halts p r → span p (w ++ r) k ≡ k w r
span_stops p w r k a s =
    let e : take_while p (w ++ r) ≡ w = ap (λ n. take n (w ++ r)) (run_length p w r a s) ∙ take_seam w r in
    ap (λ z. k z (drop (length z) (w ++ r))) e ∙ ap (k w) (drop-append_seam w r)

pub halts_word : (r : List ℕ) → Stops r → Halts is_word r
halts_word [] s = tt
halts_word (b ∷ r) s = s

no_digit : (b : ℕ) → is_word b ≡ false → is_digit b ≡ false
no_digit b h = elim (is_letter b) as (λ t. (t || is_digit b) ≡ false → is_digit b ≡ false) [ true ↦ λ e. cc | false ↦ λ e. e ] h

halts_digit : (r : List ℕ) → Stops r → Halts is_digit r
halts_digit [] s = tt
halts_digit (b ∷ r) s = no_digit b s

-- a name is cut off as itself
pub ident_front : (x r : List ℕ) → IsIdent x → Stops r → front (skip (x ++ r)) ≡ Begins (token.Ident x) r
ident_front [] r i s = absurd i
ident_front (b ∷ w) r i s =
    let p = letter_plain b i.0 in
    let t : is_word b ≡ true = ap (λ z. z || is_digit b) i.0 in
    ap front (skip_plain b (w ++ r) p.0 p.1)
    ∙ ap (λ t. if t then span is_word (b ∷ (w ++ r)) word else (if is_digit b then span is_digit (b ∷ (w ++ r)) number else symbol b (w ++ r))) i.0
    ∙ span_stops is_word (b ∷ w) r word (t, i.1) (halts_word r s)
    ∙ ap (λ z. Begins z r) i.2

pub own : IsNumeralModel (AllPass is_digit) (read_on 0)
own = numerals_by_fold _ (search rules) read_on (search rules)

digits_front : (n : ℕ) (u r : List ℕ) → AllPass is_digit u → 0 < length u → read_on 0 u ≡ n → n ≤ greatest_number → Stops r → front (skip (u ++ r)) ≡ Begins (token.Number n) r
digits_front n [] r a l v g s = absurd (omega (arith, l))
digits_front n (b ∷ w) r a l v g s =
    let p = digit_plain b a.0 in
    let h : read_on 0 (b ∷ w) ≤ greatest_number = omega (arith, v, g) in
    ap front (skip_plain b (w ++ r) p.0 p.1)
    ∙ ap (λ t. if t then span is_word (b ∷ (w ++ r)) word else (if is_digit b then span is_digit (b ∷ (w ++ r)) number else symbol b (w ++ r))) p.3
    ∙ ap (λ t. if t then span is_digit (b ∷ (w ++ r)) number else symbol b (w ++ r)) a.0
    ∙ span_stops is_digit (b ∷ w) r number a (halts_digit r s)
    ∙ ap (λ t. if t then Begins (token.Number (read_on 0 (b ∷ w))) r else lexer.BadNumber) (le-leb (read_on 0 (b ∷ w)) greatest_number h)
    ∙ ap (λ m. Begins (token.Number m) r) v

pub small : (n : ℕ) → n ≤ greatest_number → n < 2 ^ 64
small n h = omega arith

-- a number's digits are cut off as it
pub number_front : (n : ℕ) (r : List ℕ) → n ≤ greatest_number → Stops r → front (skip (decimal n ++ r)) ≡ Begins (token.Number n) r
number_front n r g s = digits_front n (decimal n) r (digits_decimal own n (small n g)) (decimal_nonempty n (small n g)) (digits_value-decimal own n (small n g)) g s

-- symbols of one byte
pub open_front : (r : List ℕ) → front (skip (40 ∷ r)) ≡ Begins token.Open r
open_front [] = refl
open_front (b ∷ r) = refl

pub close_front : (r : List ℕ) → front (skip (41 ∷ r)) ≡ Begins token.Close r
close_front [] = refl
close_front (b ∷ r) = refl

pub comma_front : (r : List ℕ) → front (skip (44 ∷ r)) ≡ Begins token.Comma r
comma_front [] = refl
comma_front (b ∷ r) = refl

pub semicolon_front : (r : List ℕ) → front (skip (59 ∷ r)) ≡ Begins token.Semicolon r
semicolon_front [] = refl
semicolon_front (b ∷ r) = refl

pub colon_front : (r : List ℕ) → front (skip (58 ∷ r)) ≡ Begins token.Colon r
colon_front [] = refl
colon_front (b ∷ r) = refl

-- - before a byte that does not go on with it
pub minus_front : (b : ℕ) (r : List ℕ) → (b == 45) ≡ false → (b == 62) ≡ false → front (skip (45 ∷ b ∷ r)) ≡ Begins (token.Infix (Operator Sub)) (b ∷ r)
minus_front b r p q =
    ap front (ap (λ t. if t then skip_comment (b ∷ r) else 45 ∷ b ∷ r) p)
    ∙ ap (λ t. symbol_of (if t then Some Arrow else None) (Some (token.Infix (Operator Sub))) (b ∷ r)) q
