-- The records of the text of the inputs.
use Rattle.std.proofs.Common.{◌≡◌, ◌≤◌, ◌<◌, ◌+◌, ◌^◌, ◌==◌, ℕ, zero, suc, true, false, List, [], ◌∷◌, ◌++◌, length, map, Some, refl, sym, ap, ◌∙◌, append_assoc, arith, codes, decimal, add-zero, add-one, ◌*◌}
use Rattle.std.specs.List.{range_with_len}
use Rattle.std.proofs.lemmas.List.{append-nil, length-append}
use Rattle.std.proofs.lemmas.Fmt.{decimal_nonempty, length-decimal-le}
use Rattle.csv.specs.Machine.{next_record}
use Rattle.csv.specs.Reading.{default_config, records_from, strip_bom, records}
use Rattle.csv.specs.declared.parser.State.TheVariants as st
use Rattle.lt_base.specs.Digits.{is_digit, all_digits}
use Rattle.lt_base.proofs.Digits.{digits-cons, number_back, number_digits}
use Rattle.lt_big_texts.specs.Texts.{row_text, inputs_text, with_line_feed}

-- a digit is no mark of the format
digit_plain : (c : ℕ) → is_digit c ≡ true → ((c == 44) ≡ false) × ((c == 34) ≡ false) × ((c == 13) ≡ false) × ((c == 10) ≡ false)
digit_plain c h = (grind (arith, h), grind (arith, h), grind (arith, h), grind (arith, h))

-- digits join the field at hand
digits_run : (fields : List (List ℕ)) (field ds tail : List ℕ) → all_digits ds ≡ true
    → next_record default_config st.InField fields field (ds ++ tail) ≡ next_record default_config st.InField fields (field ++ ds) tail
unfolding next_record
digits_run fields field [] tail h = rw (append-nil field) refl
digits_run fields field (c ∷ ds) tail h =
    let parts = digits-cons c ds h in
    let plain = digit_plain c parts.0 in
    rw (plain.0, plain.2, plain.3) (digits_run fields (field ++ (c ∷ [])) ds tail parts.1
    ∙ ap (λ (f : List ℕ). next_record default_config st.InField fields f tail) (append_assoc field (c ∷ []) ds))

-- and so they do at the start of a field, and of a record
field_start : (fields : List (List ℕ)) (ds tail : List ℕ) → 0 < length ds → all_digits ds ≡ true
    → next_record default_config st.StartField fields [] (ds ++ tail) ≡ next_record default_config st.InField fields ds tail
unfolding next_record
field_start fields [] tail some h = absurd (omega (arith, some))
field_start fields (c ∷ ds) tail some h =
    let plain = digit_plain c (digits-cons c ds h).0 in
    rw plain.1 (digits_run fields [] (c ∷ ds) tail h)

record_start : (ds tail : List ℕ) → 0 < length ds → all_digits ds ≡ true
    → next_record default_config st.StartRecord [] [] (ds ++ tail) ≡ next_record default_config st.StartField [] [] (ds ++ tail)
unfolding next_record
record_start [] tail some h = absurd (omega (arith, some))
record_start (c ∷ ds) tail some h =
    let plain = digit_plain c (digits-cons c ds h).0 in
    rw (plain.2, plain.3) refl

-- a comma ends a field, and a line feed a record
comma_ends : (fields : List (List ℕ)) (field tail : List ℕ)
    → next_record default_config st.InField fields field (44 ∷ tail) ≡ next_record default_config st.StartField (fields ++ field ∷ []) [] tail
unfolding next_record
comma_ends fields field tail = refl

line_ends : (fields : List (List ℕ)) (field tail : List ℕ)
    → next_record default_config st.InField fields field (10 ∷ tail) ≡ Some (fields ++ field ∷ [], st.StartRecord, tail)
unfolding next_record
line_ends fields field tail = refl

-- a line of the same digits twice
line_read : (ds tail : List ℕ) → 0 < length ds → all_digits ds ≡ true
    → next_record default_config st.StartRecord [] [] (ds ++ 44 ∷ (ds ++ 10 ∷ tail)) ≡ Some (ds ∷ ds ∷ [], st.StartRecord, tail)
line_read ds tail some h =
    record_start ds (44 ∷ (ds ++ 10 ∷ tail)) some h
    ∙ field_start [] ds (44 ∷ (ds ++ 10 ∷ tail)) some h
    ∙ comma_ends [] ds (ds ++ 10 ∷ tail)
    ∙ field_start (ds ∷ []) ds (10 ∷ tail) some h
    ∙ line_ends (ds ∷ []) ds tail

-- the record of an instant
abbrev pub instant_record : ℕ → List (List ℕ)
instant_record k = decimal k ∷ decimal k ∷ []

row_read : (k : ℕ) (tail : List ℕ) → k < 2 ^ 64 → next_record default_config st.StartRecord [] [] (row_text k ++ tail) ≡ Some (instant_record k, st.StartRecord, tail)
row_read k tail low =
    let ds = decimal k in
    let whole : (ds ++ 44 ∷ (ds ++ 10 ∷ [])) ++ tail ≡ ds ++ 44 ∷ (ds ++ 10 ∷ tail) =
    append_assoc ds (44 ∷ (ds ++ 10 ∷ [])) tail ∙ ap (λ (t : List ℕ). ds ++ 44 ∷ t) (append_assoc ds (10 ∷ []) tail) in
    rw whole (line_read ds tail (decimal_nonempty k low) (number_digits ds k (number_back k low)))

-- the rows of so many instants from one on
abbrev pub rows_text : (from n : ℕ) → List ℕ
rows_text from zero = []
rows_text from (suc n) = row_text from ++ rows_text (from + 1) n

rows_end : (from n : ℕ) → rows_text from (suc n) ≡ rows_text from n ++ row_text (from + n)
rows_end from zero = append-nil (row_text from) ∙ ap row_text (sym (add-zero from))
rows_end from (suc n) =
    let next : from + 1 + n ≡ from + suc n = omega arith in
    ap (λ (t : List ℕ). row_text from ++ t) (rows_end (from + 1) n ∙ ap (λ (k : ℕ). rows_text (from + 1) n ++ row_text k) next)
    ∙ sym (append_assoc (row_text from) (rows_text (from + 1) n) (row_text (from + suc n)))

abbrev pub header_line : List ℕ
header_line = with_line_feed (codes "instant,x")

text_is : (n : ℕ) → inputs_text n ≡ header_line ++ rows_text 0 n
unfolding inputs_text
text_is zero = refl
text_is (suc n) =
    let here : n ≡ 0 + n = omega arith in
    ap (λ (t : List ℕ). t ++ row_text n) (text_is n)
    ∙ append_assoc header_line (rows_text 0 n) (row_text n)
    ∙ ap (λ (t : List ℕ). header_line ++ t) (ap (λ (k : ℕ). rows_text 0 n ++ row_text k) here ∙ sym (rows_end 0 n))

-- a row has a byte at least, and few of them
row_length : (k : ℕ) → k < 100000 → (1 ≤ length (row_text k)) × (length (row_text k) ≤ 12)
row_length k low =
    let small : length (decimal k) ≤ 5 = length-decimal-le 5 k (omega arith) low (omega (arith, low)) in
    let split : length (row_text k) ≡ length (decimal k) + length (44 ∷ (decimal k ++ 10 ∷ [])) = length-append (decimal k) (44 ∷ (decimal k ++ 10 ∷ [])) in
    let rest : length (decimal k ++ 10 ∷ []) ≡ length (decimal k) + 1 = length-append (decimal k) (10 ∷ []) in
    let more : length (44 ∷ (decimal k ++ 10 ∷ [])) ≡ suc (length (decimal k ++ 10 ∷ [])) = refl in
    (omega (arith, split, rest, more), omega (arith, small, split, rest, more))

rows_length : (from n : ℕ) → from + n ≤ 100000 → (n ≤ length (rows_text from n)) × (length (rows_text from n) ≤ 12 * n)
rows_length from zero high = (omega arith, omega arith)
rows_length from (suc n) high =
    let row = row_length from (omega (arith, high)) in
    let rest = rows_length (from + 1) n (omega (arith, high)) in
    let split : length (row_text from ++ rows_text (from + 1) n) ≡ length (row_text from) + length (rows_text (from + 1) n) = length-append (row_text from) (rows_text (from + 1) n) in
    (omega (arith, row.0, rest.0, split), omega (arith, row.1, rest.1, split))

header_length : (tail : List ℕ) → length (header_line ++ tail) ≡ 10 + length tail
header_length tail = length-append header_line tail

-- the text is not too long
pub text_length : (n : ℕ) → n ≤ 100000 → length (inputs_text n) ≤ 67108864
text_length n high =
    let rows = (rows_length 0 n (omega (arith, high))).1 in
    let whole = ap (λ (t : List ℕ). length t) (text_is n) ∙ header_length (rows_text 0 n) in
    omega (arith, high, rows, whole)

rows_records : (from n m : ℕ) → from + n ≤ 100000 → n < m → records_from default_config m st.StartRecord (rows_text from n) ≡ map instant_record (range_with_len from n)
unfolding records_from next_record
rows_records from n zero high more = absurd (omega (arith, more))
rows_records from zero (suc m) high more = refl
rows_records from (suc n) (suc m) high more =
    rw (row_read from (rows_text (from + 1) n) (omega (arith, high)))
    (ap (λ (rs : List (List (List ℕ))). instant_record from ∷ rs) (rows_records (from + 1) n m (omega (arith, high)) (omega (arith, more))))

-- the fields of the header
abbrev pub header_fields : List (List ℕ)
header_fields = codes "instant" ∷ codes "x" ∷ []

header_record : (m : ℕ) (tail : List ℕ) → records_from default_config (suc m) st.StartRecord (header_line ++ tail) ≡ header_fields ∷ records_from default_config m st.StartRecord tail
unfolding records_from next_record
header_record m tail = refl

unmarked : (tail : List ℕ) → strip_bom (header_line ++ tail) ≡ header_line ++ tail
unfolding strip_bom
unmarked tail = refl

-- the header, and a record for each instant
pub text_records : (n : ℕ) → n ≤ 100000 → records default_config (strip_bom (inputs_text n)) ≡ header_fields ∷ map instant_record (range_with_len 0 n)
text_records n high =
    let rows = rows_text 0 n in
    let text : List ℕ = header_line ++ rows in
    let enough : n < length text = (let long = (rows_length 0 n (omega (arith, high))).0 in let whole = header_length rows in omega (arith, long, whole)) in
    ap (λ (t : List ℕ). records default_config (strip_bom t)) (text_is n)
    ∙ ap (λ (t : List ℕ). records default_config t) (unmarked rows)
    ∙ ap (λ (m : ℕ). records_from default_config m st.StartRecord text) (add-one (length text))
    ∙ header_record (length text) rows
    ∙ ap (λ (rs : List (List (List ℕ))). header_fields ∷ rs) (rows_records 0 n (length text) (omega (arith, high)) enough)
