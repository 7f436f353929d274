-- A row, field by field.
use Rattle.std.proofs.Common.{◌≡◌, ◌≢◌, ℕ, ◌+◌, ◌-◌, ◌≤◌, ◌<◌, ◌==◌, Bool, true, false, not, if◌then◌else◌, List, [], ◌∷◌, ◌++◌, length, drop, get_or, Option, Some, None, option_map, Ok, Err, refl, sym, ap, ◌∙◌, arith, nat_le, nat_lt, append_assoc}
use Rattle.lt_base.specs.declared.function.Decl.{Decl}
use Rattle.lt_base.specs.declared.value.Value.{Value}
use Rattle.lt_base.specs.Digits.{number_of, up_to}
use Rattle.lt_inputs.specs.Fields.{field_value}
use Rattle.lt_inputs.specs.Inputs.{is_text, is_this_number, with_value, field_values, or_no_value, instant_and_values, row_of}
use Rattle.lt_inputs.specs.declared.fault.InputKind.{InputKind}
use Rattle.lt_inputs.specs.declared.fault.InputKind.TheVariants.{NotCsv, Instant, TooMany}
use Rattle.lt_inputs.proofs.TextLemmas.{reads-text}

-- ---- tests on numbers

lt-false : (m n : ℕ) → n ≤ m → nat_lt m n ≡ false
lt-false m n h = grind arith

eq-true : (m n : ℕ) → m ≡ n → (m == n) ≡ true
eq-true m n h = grind arith

eq-false : (m n : ℕ) → m ≢ n → (m == n) ≡ false
eq-false m n h = grind arith

-- ---- an instant

up_to-some : (most : ℕ) (o : Option ℕ) (v : ℕ) → up_to most o ≡ Some v → o ≡ Some v
up_to-some most None v e = cc
up_to-some most (Some n) v e = by (nat_le n most) e
  where
    by : (b : Bool) → (if b then Some n else None) ≡ Some v → Some n ≡ Some v
    by true h = h
    by false h = cc

pub other_number : (most n : ℕ) (o : Option ℕ) → n ≤ most → up_to most o ≡ None → is_this_number n o ≡ false
other_number most n None h e = refl
other_number most n (Some m) h e = eq-false m n (λ same. by (nat_le m most) (grind (arith, same, h)) e)
  where
    by : (b : Bool) → b ≡ true → (if b then Some m else None) ≡ None → ⊥
    by true is g = cc
    by false is g = cc

pub this_number : (most n v : ℕ) (o : Option ℕ) → up_to most o ≡ Some v → is_this_number n o ≡ (v == n)
this_number most n v o e = ap (is_this_number n) (up_to-some most o v e)

-- ---- values

-- the values so far before the others
abbrev pub front : List Value → Option (List Value) → Option (List Value)
front acc o = option_map (λ vs. acc ++ vs) o

pub front-more : (acc : List Value) (v : Value) (o : Option (List Value)) → front acc (with_value (Some v) o) ≡ front (acc ++ v ∷ []) o
front-more acc v None = refl
front-more acc v (Some vs) = ap Some (sym (append_assoc acc (v ∷ []) vs))

pub values-next : (d : Decl) (ds : List Decl) (f : List ℕ) (fs : List (List ℕ)) → field_values (d ∷ ds) (f ∷ fs) ≡ with_value (field_value d.ty f) (field_values ds fs)
values-next d ds f fs = refl

pub read-by_cases : (ins : List Decl) (k : ℕ) (fields : List (List ℕ)) → 0 < length fields
    → instant_and_values ins k fields ≡ (if is_this_number k (number_of (get_or fields 0 [])) then or_no_value (field_values ins (drop 1 fields)) else Err Instant)
read-by_cases ins k [] h = absurd (omega arith)
read-by_cases ins k (f ∷ fs) h = refl

-- ---- a row

module _ (ins : List Decl) (n : ℕ) (fields : List (List ℕ)) where
  pub row-within : n < 100000 → length fields ≡ length ins + 1
      → row_of ins (n + 1) fields ≡ (if not (is_text fields) then Err NotCsv else instant_and_values ins n fields)
  row-within h w =
      let small : n + 1 ≤ 100000 = omega arith in
      let back : n + 1 - 1 ≡ n = omega arith in
      rw (lt-false 100000 (n + 1) small, eq-true (length fields) (length ins + 1) w, back) refl

  pub row-unequal : n < 100000 → length fields ≢ length ins + 1 → row_of ins (n + 1) fields ≡ Err NotCsv
  row-unequal h w =
      let small : n + 1 ≤ 100000 = omega arith in
      rw (lt-false 100000 (n + 1) small, eq-false (length fields) (length ins + 1) w) refl

  pub row-read : (vs : List Value) → n < 100000 → length fields ≡ length ins + 1 → instant_and_values ins n fields ≡ Ok vs → row_of ins (n + 1) fields ≡ Ok vs
  row-read vs h w e = row-within h w ∙ rw (reads-text ins n fields vs e) e

  pub row-fault : (k : InputKind) → n < 100000 → length fields ≡ length ins + 1 → instant_and_values ins n fields ≡ Err k
      → row_of ins (n + 1) fields ≡ Err (if is_text fields then k else NotCsv)
  row-fault k h w e = row-within h w ∙ by (is_text fields)
    where
      by : (b : Bool) → (if not b then Err NotCsv else instant_and_values ins n fields) ≡ Err (if b then k else NotCsv)
      by true = e
      by false = refl

pub row-past : (ins : List Decl) (fields : List (List ℕ)) → row_of ins 100001 fields ≡ Err TooMany
row-past ins fields = refl
