-- What holds of every table that a file reads as.
use Rattle.std.proofs.Common.{◌≡◌, ℕ, ◌+◌, ◌-◌, ◌≤◌, ◌==◌, Bool, true, false, not, if◌then◌else◌, List, [], ◌∷◌, length, map, Option, Some, None, Result, Ok, Err, refl, sym, ap, subst, ◌∙◌, arith, nat_lt, ℤ}
use Rattle.std.specs.Prelude.{option_map, IfOk}
use Rattle.csv.specs.Reading.{records, default_config, strip_bom}
use Rattle.lt_base.specs.declared.function.Decl.{Decl}
use Rattle.lt_base.specs.declared.value.Ty.{Ty}
use Rattle.lt_base.specs.declared.value.Ty.TheVariants as ty
use Rattle.lt_base.specs.declared.value.Value.{Value}
use Rattle.lt_base.specs.declared.value.Value.TheVariants.{Int, Bool as Truth}
use Rattle.lt_base.specs.declared.memory.Or.{Or}
use Rattle.lt_base.specs.Value.{ty_of}
use Rattle.lt_base.specs.Program.{Function}
use Rattle.lt_base.specs.Inputs.{InputTable}
use Rattle.lt_base.specs.Typing.{RowFits, AllFit}
use Rattle.lt_base.specs.Behaviour.{RowsFit}
use Rattle.lt_base.specs.Digits.{number_of}
use Rattle.lt_inputs.specs.Fields.{field_value, int_of, bool_of}
use Rattle.lt_base.specs.Limits.{most_rows}
use Rattle.lt_inputs.specs.Inputs.{inputs_in, inputs_of, input_table_of, input_rows_of, input_rows_from, row_of, then_rows, with_value, field_values, or_no_value, instant_and_values, is_this_number, is_text, same_fields, header_of, at_header}
use Rattle.lt_inputs.specs.Told.{ToldWanted}
use Rattle.lt_inputs.specs.declared.fault.InputFault.{InputFault}
use Rattle.lt_inputs.specs.declared.fault.InputKind.{InputKind}
use Rattle.lt_inputs.specs.declared.fault.InputKind.TheVariants.{NotCsv, Header, Instant, TooMany}

-- ---- values

value-type : (t : Ty) (field : List ℕ) (v : Value) → field_value t field ≡ Some v → ty_of v ≡ t
value-type ty.Int field v e = by (int_of field) e
  where
    by : (o : Option ℤ) → option_map Int o ≡ Some v → ty_of v ≡ ty.Int
    by None g = cc
    by (Some z) g = let h : Int z ≡ v = cc in ap ty_of (sym h)
value-type ty.Bool field v e = by (bool_of field) e
  where
    by : (o : Option Bool) → option_map Truth o ≡ Some v → ty_of v ≡ ty.Bool
    by None g = cc
    by (Some b) g = let h : Truth b ≡ v = cc in ap ty_of (sym h)

-- the values of a record fit, and there is one for each input
abbrev Fitting : List Decl → List Value → Type 0
Fitting ds vs = RowFits (map (λ d. d.ty) ds) (map Some vs) × (length vs ≡ length ds)

some-values : {us vs : List Value} → Some us ≡ Some vs → us ≡ vs
some-values e = cc

values-fit : (ds : List Decl) (fields : List (List ℕ)) (vs : List Value) → field_values ds fields ≡ Some vs → Fitting ds vs
values-fit [] [] vs e = subst (Fitting []) (some-values e) (tt, refl)
values-fit [] (f ∷ fs) vs e = cc
values-fit (d ∷ ds) [] vs e = cc
values-fit (d ∷ ds) (f ∷ fs) vs e = by (field_value d.ty f) refl (field_values ds fs) refl e (λ us. values-fit ds fs us)
  where
    by : (o : Option Value) → field_value d.ty f ≡ o → (p : Option (List Value)) → field_values ds fs ≡ p → with_value o p ≡ Some vs
        → ((us : List Value) → field_values ds fs ≡ Some us → Fitting ds us) → Fitting (d ∷ ds) vs
    by None is p more g rest = cc
    by (Some v) is None more g rest = cc
    by (Some v) is (Some us) more g rest =
        let h = rest us more in
        subst (Fitting (d ∷ ds)) (some-values g) ((value-type d.ty f v is, h.0), omega (arith, h.1))

-- ---- rows

read-values : (ins : List Decl) (k : ℕ) (fields : List (List ℕ)) (vs : List Value) → instant_and_values ins k fields ≡ Ok vs → Fitting ins vs
read-values ins k [] vs e = cc
read-values ins k (f ∷ fs) vs e = by (is_this_number k (number_of f)) (field_values ins fs) refl e
  where
    by : (b : Bool) (p : Option (List Value)) → field_values ins fs ≡ p → (if b then or_no_value p else Err Instant) ≡ Ok vs → Fitting ins vs
    by false p is g = cc
    by true None is g = cc
    by true (Some us) is g = let h : us ≡ vs = cc in values-fit ins fs vs (is ∙ ap Some h)

pub row-fits : (ins : List Decl) (n : ℕ) (fields : List (List ℕ)) (vs : List Value) → row_of ins n fields ≡ Ok vs → (n ≤ 100000) × Fitting ins vs
row-fits ins n fields vs e = by (nat_lt most_rows n) refl (length fields == length ins + 1) (is_text fields) e
  where
    few : nat_lt most_rows n ≡ false → n ≤ 100000
    few h = grind (arith, h)

    by : (a : Bool) → nat_lt most_rows n ≡ a → (b t : Bool)
        → (if a then Err TooMany else if not b then Err NotCsv else if not t then Err NotCsv else instant_and_values ins (n - 1) fields) ≡ Ok vs
        → (n ≤ 100000) × Fitting ins vs
    by true is b t g = cc
    by false is false t g = cc
    by false is true false g = cc
    by false is true true g = (few is, read-values ins (n - 1) fields vs g)

-- the rows fit, and number no more than those up to the greatest
abbrev FittingRows : List Decl → ℕ → List (List Value) → Type 0
FittingRows ins n rows = AllFit (map (λ d. d.ty) ins) (map (map Some) rows) × (length rows + n ≤ 100001)

rows-fit : (ins : List Decl) (n : ℕ) (rs : List (List (List ℕ))) (rows : List (List Value)) → n ≤ 100001 → input_rows_from ins n rs ≡ Ok rows → FittingRows ins n rows
rows-fit ins n [] rows few e = let h : [] ≡ rows = cc in subst (FittingRows ins n) h (tt, omega arith)
rows-fit ins n (r ∷ rs) rows few e = by (row_of ins n r) refl (input_rows_from ins (n + 1) rs) refl e (λ others small. rows-fit ins (n + 1) rs others small)
  where
    by : (o : Result (List Value) InputKind) → row_of ins n r ≡ o → (p : Result (List (List Value)) InputFault) → input_rows_from ins (n + 1) rs ≡ p → then_rows n o p ≡ Ok rows
        → ((others : List (List Value)) → n + 1 ≤ 100001 → input_rows_from ins (n + 1) rs ≡ Ok others → FittingRows ins (n + 1) others) → FittingRows ins n rows
    by (Err k) is p more g rest = cc
    by (Ok vs) is (Err k) more g rest = cc
    by (Ok vs) is (Ok others) more g rest =
        let here = row-fits ins n r vs is in
        let small : n + 1 ≤ 100001 = omega (arith, here.0) in
        let there = rest others small more in
        let h : vs ∷ others ≡ rows = cc in
        subst (FittingRows ins n) h ((here.1.0, there.0), omega (arith, there.1))

table-rows : (ins : List Decl) (rs : List (List (List ℕ))) (rows : List (List Value)) → input_rows_of ins rs ≡ Ok rows → FittingRows ins 1 rows
table-rows ins [] rows e = cc
table-rows ins (header ∷ rs) rows e = by (is_text header) (same_fields header (header_of ins)) e
  where
    by : (a b : Bool) → (if not a then Err (at_header NotCsv) else if not b then Err (at_header Header) else input_rows_from ins 1 rs) ≡ Ok rows → FittingRows ins 1 rows
    by false b g = cc
    by true false g = cc
    by true true g = rows-fit ins 1 rs rows (omega arith) g

-- ---- the table

-- what was read has rows that fit the function's inputs, and not too many
pub table-fits : (f : Function) (bytes : List ℕ) (r : Result InputTable (Or InputFault)) → ToldWanted (inputs_of f bytes) r
    → IfOk r (λ t. RowsFit f t.rows) × IfOk r (λ t. length t.rows ≤ most_rows)
table-fits f bytes (Err e) told = (tt, tt)
table-fits f bytes (Ok t) told = by (input_rows_of (inputs_in f) (records default_config (strip_bom bytes))) refl told
  where
    by : (o : Result (List (List Value)) InputFault) → input_rows_of (inputs_in f) (records default_config (strip_bom bytes)) ≡ o → input_table_of f.n_in o ≡ Ok t
        → RowsFit f t.rows × (length t.rows ≤ most_rows)
    by (Err e) is g = cc
    by (Ok rows) is g =
        let table : record { width = f.n_in; rows = rows } ≡ t = cc in
        let same : rows ≡ t.rows = ap (λ (u : InputTable). u.rows) table in
        let h = table-rows (inputs_in f) (records default_config (strip_bom bytes)) t.rows (is ∙ ap Ok same) in
        (h.0, omega (arith, h.1))
