-- The rows of the text of the inputs.
use Rattle.std.proofs.Common.{◌≡◌, ◌≤◌, ◌<◌, ◌+◌, ◌-◌, ◌^◌, ◌==◌, ℕ, zero, suc, true, false, List, [], ◌∷◌, length, map, Option, Some, option_map, Result, Ok, refl, ap, ◌∙◌, arith, codes, decimal, pos, ℤ, nat_le, nat_lt}
use Rattle.std.specs.List.{range_with_len}
use Rattle.std.specs.Str.{is_utf8, IsAscii}
use Rattle.std.proofs.lemmas.Str.{IsUtf8-from_ascii, is_utf8-from_IsUtf8}
use Rattle.lt_base.specs.Digits.{number_of, up_to}
use Rattle.lt_base.proofs.Digits.{digits-cons, number_back, number_digits}
use Rattle.lt_base.specs.declared.function.Decl.{Decl}
use Rattle.lt_base.specs.declared.value.Ty.{Ty}
use Rattle.lt_base.specs.declared.value.Ty.TheVariants as ty
use Rattle.lt_base.specs.declared.value.Value.{Value}
use Rattle.lt_base.specs.declared.value.Value.TheVariants.{Int}
use Rattle.lt_base.specs.Program.{Function}
use Rattle.lt_inputs.specs.declared.fault.InputFault.{InputFault}
use Rattle.lt_inputs.specs.Fields.{int_of, field_value}
use Rattle.lt_inputs.specs.Inputs.{inputs_in, inputs_of, input_rows_of, input_rows_from, input_table_of, then_rows, row_of, instant_and_values, field_values, with_value, or_no_value, is_this_number, is_text, same_fields, header_of}
use Rattle.lt_inputs.proofs.TextLemmas.{reads-text}
use Rattle.csv.specs.Reading.{records, default_config, strip_bom}
use Rattle.lt_big_texts.specs.Texts.{inputs_text}
use Rattle.lt_big_texts.specs.Reading.{HasOneInput, numbered_rows}
use Rattle.lt_big_texts.proofs.Records.{instant_record, header_fields, text_length, text_records}

-- digits read as the int of their number
int_read : (cs : List ℕ) (n : ℕ) → number_of cs ≡ Some n → n < 2 ^ 63 → int_of cs ≡ Some (pos n)
int_read [] n is low = cc
int_read (c ∷ cs) n is low =
    let digit = (digits-cons c cs (number_digits (c ∷ cs) n is)).0 in
    let plain : (c == 45) ≡ false = grind (arith, digit) in
    let few : nat_le n (2 ^ 63 - 1) ≡ true = grind (arith, low) in
    let first : int_of (c ∷ cs) ≡ option_map pos (up_to (2 ^ 63 - 1) (number_of (c ∷ cs))) = rw plain refl in
    let last : option_map pos (up_to (2 ^ 63 - 1) (Some n)) ≡ Some (pos n) = rw few refl in
    first ∙ ap (λ (o : Option ℕ). option_map pos (up_to (2 ^ 63 - 1) o)) is ∙ last

-- the row of an instant
abbrev pub instant_row : ℕ → List Value
instant_row k = Int (pos k) ∷ []

values_read : (d : Decl) (k : ℕ) → d.ty ≡ ty.Int → k < 100000 → field_values (d ∷ []) (decimal k ∷ []) ≡ Some (instant_row k)
values_read d k is low =
    let low64 : k < 2 ^ 64 = omega (arith, low) in
    let low63 : k < 2 ^ 63 = omega (arith, low) in
    ap (λ (t : Ty). with_value (field_value t (decimal k)) (Some [])) is
    ∙ ap (λ (o : Option ℤ). with_value (option_map Int o) (Some [])) (int_read (decimal k) k (number_back k low64) low63)

same_number : (k : ℕ) → (k == k) ≡ true
same_number k = grind arith

instant_read : (d : Decl) (k : ℕ) → d.ty ≡ ty.Int → k < 100000 → instant_and_values (d ∷ []) k (instant_record k) ≡ Ok (instant_row k)
instant_read d k is low =
    let low64 : k < 2 ^ 64 = omega (arith, low) in
    let here : is_this_number k (number_of (decimal k)) ≡ true = ap (λ (o : Option ℕ). is_this_number k o) (number_back k low64) ∙ same_number k in
    rw here (ap or_no_value (values_read d k is low))

row_read : (d : Decl) (k : ℕ) → d.ty ≡ ty.Int → k < 100000 → row_of (d ∷ []) (k + 1) (instant_record k) ≡ Ok (instant_row k)
row_read d k is low =
    let few : nat_lt 100000 (k + 1) ≡ false = grind (arith, low) in
    let read = instant_read d k is low in
    let text : is_text (instant_record k) ≡ true = reads-text (d ∷ []) k (instant_record k) (instant_row k) read in
    let back : k + 1 - 1 ≡ k = omega arith in
    rw (few, text, back) read

rows_read : (d : Decl) → d.ty ≡ ty.Int → (from n : ℕ) → from + n ≤ 100000 → input_rows_from (d ∷ []) (from + 1) (map instant_record (range_with_len from n)) ≡ Ok (map instant_row (range_with_len from n))
rows_read d is from zero high = refl
rows_read d is from (suc n) high =
    let head = row_read d from is (omega (arith, high)) in
    let tail = rows_read d is (from + 1) n (omega (arith, high)) in
    ap (λ (r : Result (List Value) _). then_rows (from + 1) r (input_rows_from (d ∷ []) (from + 1 + 1) (map instant_record (range_with_len (from + 1) n)))) head
    ∙ ap (λ (r : Result (List (List Value)) InputFault). then_rows (from + 1) (Ok (instant_row from)) r) tail

-- the header is the one of a function with one input of that name
below_128 : (c : ℕ) (cs : List ℕ) → c < 128 → IsAscii cs → IsAscii (c ∷ cs)
below_128 c cs h more zero = h
below_128 c cs h more (suc i) = more i

no_bytes : IsAscii []
no_bytes i = omega arith

text_of : (field : List ℕ) → IsAscii field → is_utf8 field ≡ true
text_of field h = is_utf8-from_IsUtf8 field (IsUtf8-from_ascii field h)

instant_ascii : IsAscii (codes "instant")
instant_ascii =
    below_128 105 (codes "nstant") (omega arith) (below_128 110 (codes "stant") (omega arith) (below_128 115 (codes "tant") (omega arith) (below_128 116 (codes "ant") (omega arith)
    (below_128 97 (codes "nt") (omega arith) (below_128 110 (codes "t") (omega arith) (below_128 116 [] (omega arith) no_bytes))))))

name_ascii : IsAscii (codes "x")
name_ascii = below_128 120 [] (omega arith) no_bytes

header_text : is_text header_fields ≡ true
header_text = rw (text_of (codes "instant") instant_ascii, text_of (codes "x") name_ascii) refl

header_same : (d : Decl) → d.name ≡ codes "x" → same_fields header_fields (header_of (d ∷ [])) ≡ true
header_same d is = ap (λ (name : List ℕ). same_fields header_fields (codes "instant" ∷ name ∷ [])) is

table_read : (d : Decl) → d.name ≡ codes "x" → d.ty ≡ ty.Int → (n : ℕ) → n ≤ 100000 → input_rows_of (d ∷ []) (header_fields ∷ map instant_record (range_with_len 0 n)) ≡ Ok (numbered_rows n)
table_read d named is n high = rw (header_text, header_same d named) (rows_read d is 0 n (omega (arith, high)))

pub inputs_read : (f : Function) (n : ℕ) → HasOneInput f → n ≤ 100000 → (length (inputs_text n) ≤ 67108864) × (inputs_of f (inputs_text n) ≡ Ok (record { width = f.n_in; rows = numbered_rows n }))
inputs_read f n one high =
    let rows : Result (List (List Value)) InputFault = Ok (numbered_rows n) in
    let read : input_rows_of (inputs_in f) (records default_config (strip_bom (inputs_text n))) ≡ rows =
    ap (λ (ins : List Decl). input_rows_of ins (records default_config (strip_bom (inputs_text n)))) one.only
    ∙ ap (λ (rs : List (List (List ℕ))). input_rows_of (one.input ∷ []) rs) (text_records n high)
    ∙ table_read one.input one.name one.ty n high in
    (text_length n high, ap (λ (r : Result (List (List Value)) InputFault). input_table_of f.n_in r) read)
