-- What reads as an instant or as a value is text.
use Rattle.std.proofs.Common.{◌≡◌, ℕ, zero, suc, ◌-◌, ◌^◌, ◌<◌, ◌==◌, ◌&&◌, Bool, true, false, if◌then◌else◌, List, [], ◌∷◌, Option, Some, None, option_map, Ok, Err, refl, sym, subst, arith, codes, ℤ, pos, neg_ℤ}
use Rattle.std.specs.Str.{is_utf8, IsAscii, bytes_eq}
use Rattle.std.proofs.lemmas.Bool.{false≢true}
use Rattle.std.proofs.lemmas.Str.{IsUtf8-from_ascii, is_utf8-from_IsUtf8}
use Rattle.std.proofs.lemmas.Slice.Eq.{bytes_eq-Decides}
use Rattle.lt_base.specs.declared.function.Decl.{Decl}
use Rattle.lt_base.specs.declared.value.Ty.{Ty}
use Rattle.lt_base.specs.declared.value.Ty.TheVariants as ty
use Rattle.lt_base.specs.declared.value.Value.{Value}
use Rattle.lt_base.specs.declared.value.Value.TheVariants.{Int, Bool as Truth}
use Rattle.lt_base.specs.Digits.{is_digit, all_digits, read_on, number_of, up_to}
use Rattle.lt_inputs.specs.Fields.{int_of, bool_of, field_value}
use Rattle.lt_inputs.specs.Inputs.{is_text, is_this_number, with_value, field_values, or_no_value, instant_and_values}
use Rattle.lt_inputs.specs.declared.fault.InputKind.TheVariants.{Instant}

-- an optional result that exists, of a test
held : {A : Type 0} (b : Bool) (x y : A) → (if b then Some x else None) ≡ Some y → b ≡ true
held true x y e = refl
held false x y e = cc

below : (c : ℕ) (cs : List ℕ) → c < 128 → IsAscii cs → IsAscii (c ∷ cs)
below c cs h more zero = h
below c cs h more (suc i) = more i

digit-small : (c : ℕ) → is_digit c ≡ true → c < 128
digit-small c h = grind arith

and-left : (a b : Bool) → (a && b) ≡ true → a ≡ true
and-left true b e = refl
and-left false b e = e

and-right : (a b : Bool) → (a && b) ≡ true → b ≡ true
and-right true b e = e
and-right false b e = absurd (false≢true e)

no_bytes : IsAscii []
no_bytes i = omega arith

digits-ascii : (cs : List ℕ) → all_digits cs ≡ true → IsAscii cs
digits-ascii [] h = no_bytes
digits-ascii (c ∷ cs) h = below c cs (digit-small c (and-left (is_digit c) (all_digits cs) h)) (digits-ascii cs (and-right (is_digit c) (all_digits cs) h))

number-ascii : (cs : List ℕ) (n : ℕ) → number_of cs ≡ Some n → IsAscii cs
number-ascii [] n e = no_bytes
number-ascii (c ∷ cs) n e = digits-ascii (c ∷ cs) (held (all_digits (c ∷ cs)) (read_on 0 (c ∷ cs)) n e)

limited-ascii : (cs : List ℕ) (most : ℕ) (o : Option ℕ) (n : ℕ) → number_of cs ≡ o → up_to most o ≡ Some n → IsAscii cs
limited-ascii cs most None n is e = cc
limited-ascii cs most (Some m) n is e = number-ascii cs m is

mapped : {A B : Type 0} (f : A → B) (o : Option A) (y : B) → option_map f o ≡ Some y → (x : A) × (o ≡ Some x)
mapped f None y e = cc
mapped f (Some x) y e = (x, refl)

int-ascii : (field : List ℕ) (z : ℤ) → int_of field ≡ Some z → IsAscii field
int-ascii [] z e = no_bytes
int-ascii (c ∷ cs) z e = by (c == 45) refl e
  where
    by : (b : Bool) → (c == 45) ≡ b
        → (if b then option_map (λ n. neg_ℤ (pos n)) (up_to (2 ^ 63) (number_of cs)) else option_map pos (up_to (2 ^ 63 - 1) (number_of (c ∷ cs)))) ≡ Some z
        → IsAscii (c ∷ cs)
    by true minus g =
        let (n, is) = mapped (λ n. neg_ℤ (pos n)) (up_to (2 ^ 63) (number_of cs)) z g in
        let small : c < 128 = grind (arith, minus) in
        below c cs small (limited-ascii cs (2 ^ 63) (number_of cs) n refl is)
    by false other g =
        let (n, is) = mapped pos (up_to (2 ^ 63 - 1) (number_of (c ∷ cs))) z g in
        limited-ascii (c ∷ cs) (2 ^ 63 - 1) (number_of (c ∷ cs)) n refl is

ascii-text : (field : List ℕ) → IsAscii field → is_utf8 field ≡ true
ascii-text field h = is_utf8-from_IsUtf8 field (IsUtf8-from_ascii field h)

word-ascii : (field word : List ℕ) → bytes_eq field word ≡ true → IsAscii word → IsAscii field
word-ascii field word e h = subst IsAscii (sym ((bytes_eq-Decides field word).0 e)) h

true-ascii : IsAscii (codes "true")
true-ascii = below 116 (114 ∷ 117 ∷ 101 ∷ []) (omega arith) (below 114 (117 ∷ 101 ∷ []) (omega arith) (below 117 (101 ∷ []) (omega arith) (below 101 ([]) (omega arith) no_bytes)))

false-ascii : IsAscii (codes "false")
false-ascii = below 102 (97 ∷ 108 ∷ 115 ∷ 101 ∷ []) (omega arith) (below 97 (108 ∷ 115 ∷ 101 ∷ []) (omega arith) (below 108 (115 ∷ 101 ∷ []) (omega arith) (below 115 (101 ∷ []) (omega arith) (below 101 ([]) (omega arith) no_bytes))))

bool-ascii : (field : List ℕ) (t : Bool) → bool_of field ≡ Some t → IsAscii field
bool-ascii field t e = by (bytes_eq field (codes "true")) refl (bytes_eq field (codes "false")) refl e
  where
    by : (a : Bool) → bytes_eq field (codes "true") ≡ a → (b : Bool) → bytes_eq field (codes "false") ≡ b
        → (if a then Some true else if b then Some false else None) ≡ Some t → IsAscii field
    by true is b other g = word-ascii field (codes "true") is true-ascii
    by false is true other g = word-ascii field (codes "false") other false-ascii
    by false is false other g = cc

value-text : (t : Ty) (field : List ℕ) (v : Value) → field_value t field ≡ Some v → is_utf8 field ≡ true
value-text ty.Int field v e = let (z, is) = mapped Int (int_of field) v e in ascii-text field (int-ascii field z is)
value-text ty.Bool field v e = let (b, is) = mapped Truth (bool_of field) v e in ascii-text field (bool-ascii field b is)

both : (a b : Bool) → a ≡ true → b ≡ true → (a && b) ≡ true
both a b h g = rw (h, g) refl

values-text : (ds : List Decl) (fields : List (List ℕ)) (vs : List Value) → field_values ds fields ≡ Some vs → is_text fields ≡ true
values-text [] [] vs e = refl
values-text [] (f ∷ fs) vs e = cc
values-text (d ∷ ds) [] vs e = refl
values-text (d ∷ ds) (f ∷ fs) vs e = by (field_value d.ty f) refl (field_values ds fs) refl e (λ us. values-text ds fs us)
  where
    by : (o : Option Value) → field_value d.ty f ≡ o → (p : Option (List Value)) → field_values ds fs ≡ p → with_value o p ≡ Some vs
        → ((us : List Value) → field_values ds fs ≡ Some us → is_text fs ≡ true) → is_text (f ∷ fs) ≡ true
    by None is p more g rest = cc
    by (Some v) is None more g rest = cc
    by (Some v) is (Some us) more g rest = both (is_utf8 f) (is_text fs) (value-text d.ty f v is) (rest us more)

-- a record that reads as an instant and values is text
pub reads-text : (ds : List Decl) (k : ℕ) (fields : List (List ℕ)) (vs : List Value) → instant_and_values ds k fields ≡ Ok vs → is_text fields ≡ true
reads-text ds k [] vs e = refl
reads-text ds k (f ∷ fs) vs e = by (number_of f) refl (field_values ds fs) refl e
  where
    values : (b : Bool) (p : Option (List Value)) → field_values ds fs ≡ p → (if b then or_no_value p else Err Instant) ≡ Ok vs → is_text fs ≡ true
    values false p is g = cc
    values true None is g = cc
    values true (Some us) is g = values-text ds fs us is

    by : (o : Option ℕ) → number_of f ≡ o → (p : Option (List Value)) → field_values ds fs ≡ p
        → (if is_this_number k o then or_no_value p else Err Instant) ≡ Ok vs → is_text (f ∷ fs) ≡ true
    by None is p more g = cc
    by (Some n) is p more g = both (is_utf8 f) (is_text fs) (ascii-text f (number-ascii f n is)) (values (is_this_number k (Some n)) p more g)
