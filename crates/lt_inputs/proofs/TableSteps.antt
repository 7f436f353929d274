-- What a step of the reader says of the table.
use Rattle.std.proofs.Common.{◌≡◌, ◌≢◌, ℕ, ◌+◌, ◌<◌, Bool, true, false, if◌then◌else◌, List, [], ◌∷◌, ◌++◌, length, Option, None, Result, Ok, Err, refl, sym, ap, ◌∙◌, arith, Bor, append_assoc}
use Rattle.std.proofs.lemmas.List.{append-nil}
use Rattle.std.proofs.lemmas.Bool.{false≢true}
use Rattle.std.specs.Str.{bytes_eq}
use Rattle.csv.specs.declared.reader.Reader.{Reader}
use Rattle.lt_base.specs.declared.function.Decl.{Decl}
use Rattle.lt_base.specs.declared.value.Value.{Value}
use Rattle.lt_base.specs.Inputs.{InputTable}
use Rattle.lt_base.specs.declared.memory.Or.{Or}
use Rattle.lt_base.specs.declared.memory.Or.TheVariants.{Fault, Memory}
use Rattle.lt_inputs.specs.Records.{rest_of, ReaderAdvances}
use Rattle.lt_inputs.specs.Inputs.{input_table_of, input_rows_of, input_rows_from, row_of, then_rows, same_fields, header_of, at_header, is_text}
use Rattle.lt_inputs.specs.Told.{ToldWanted, Fills, at_row}
use Rattle.lt_inputs.specs.declared.fault.InputFault.{InputFault}
use Rattle.lt_inputs.specs.declared.fault.InputKind.{InputKind}
use Rattle.lt_inputs.specs.declared.fault.InputKind.TheVariants.{NotCsv, Header, TooMany}
use Rattle.lt_inputs.specs.declared.records.Next.{Next}
use Rattle.lt_inputs.specs.declared.records.Next.TheVariants.{Found, OtherLength, End}
use Rattle.lt_inputs.proofs.RowSteps.{row-unequal}
use Rattle.lt_inputs.proofs.Header.{names-length}

-- ---- the header

-- the first record has no length to keep
pub no_first : (old new : Reader (Bor (List ℕ))) (next : Next) (f : List (List ℕ)) → ReaderAdvances old None next new f → next ≢ Found → rest_of old ≡ []
no_first old new Found f a h = absurd (h refl)
no_first old new End f a h = a
no_first old new OtherLength f a h = absurd a.3

pub some_more : (old new : Reader (Bor (List ℕ))) (w : Option ℕ) (next : Next) (f : List (List ℕ)) → ReaderAdvances old w next new f → next ≢ End
    → (r : List (List ℕ)) × (rest : List (List (List ℕ))) × (rest_of old ≡ r ∷ rest)
some_more old new w End f a h = absurd (h refl)
some_more old new w Found f a h = (f, rest_of new, a.0)
some_more old new w OtherLength f a h = (a.0, a.1, a.2)

same_length : (as_ bs : List (List ℕ)) → same_fields as_ bs ≡ true → length as_ ≡ length bs
same_length [] [] h = refl
same_length [] (b ∷ bs) h = absurd (false≢true h)
same_length (a ∷ as_) [] h = absurd (false≢true h)
same_length (a ∷ as_) (b ∷ bs) h = by (bytes_eq a b) h (λ g. omega (arith, same_length as_ bs g))
  where
    by : (t : Bool) → (if t then same_fields as_ bs else false) ≡ true → (same_fields as_ bs ≡ true → length (a ∷ as_) ≡ length (b ∷ bs)) → length (a ∷ as_) ≡ length (b ∷ bs)
    by true e more = more e
    by false e more = absurd (false≢true e)

module _ (ins : List Decl) (all : List (List (List ℕ))) where
  pub no_table : all ≡ [] → input_rows_of ins all ≡ Err (at_header Header)
  no_table e = ap (input_rows_of ins) e

  pub unreadable_header : (f : List (List ℕ)) (rest : List (List (List ℕ))) → all ≡ f ∷ rest → is_text f ≡ false → input_rows_of ins all ≡ Err (at_header NotCsv)
  unreadable_header f rest e h = ap (input_rows_of ins) e ∙ rw h refl

  pub other_header : (f : List (List ℕ)) (rest : List (List (List ℕ))) → all ≡ f ∷ rest → is_text f ≡ true → same_fields f (header_of ins) ≡ false
      → input_rows_of ins all ≡ Err (at_header Header)
  other_header f rest e t h = ap (input_rows_of ins) e ∙ rw (t, h) refl

  pub the_header : (f : List (List ℕ)) (rest : List (List (List ℕ))) → all ≡ f ∷ rest → is_text f ≡ true → same_fields f (header_of ins) ≡ true
      → input_rows_of ins all ≡ input_rows_from ins 1 rest
  the_header f rest e t h = ap (input_rows_of ins) e ∙ rw (t, h) refl

pub header-length : (ins : List Decl) (f : List (List ℕ)) → same_fields f (header_of ins) ≡ true → length f ≡ length ins + 1
header-length ins f h = omega (arith, same_length f (header_of ins) h, names-length ins)

-- ---- the rows so far, and the rest

-- the rows so far before the others
abbrev pub after : List (List Value) → Result (List (List Value)) InputFault → Result (List (List Value)) InputFault
after acc (Ok more) = Ok (acc ++ more)
after acc (Err fault) = Err fault

pub after-nil : (rows : Result (List (List Value)) InputFault) → rows ≡ after [] rows
after-nil (Ok more) = refl
after-nil (Err e) = refl

after-more : (acc : List (List Value)) (n : ℕ) (vs : List Value) (rest : Result (List (List Value)) InputFault)
    → after acc (then_rows n (Ok vs) rest) ≡ after (acc ++ vs ∷ []) rest
after-more acc n vs (Ok more) = ap Ok (sym (append_assoc acc (vs ∷ []) more))
after-more acc n vs (Err e) = refl

module _ (ins : List Decl) (acc : List (List Value)) (n : ℕ) (left : List (List (List ℕ))) where
  pub rows-end : left ≡ [] → after acc (input_rows_from ins (n + 1) left) ≡ Ok acc
  rows-end e = ap (λ l. after acc (input_rows_from ins (n + 1) l)) e ∙ ap Ok (append-nil acc)

  pub rows-fault : (r : List (List ℕ)) (rest : List (List (List ℕ))) (k : InputKind) → left ≡ r ∷ rest → row_of ins (n + 1) r ≡ Err k
      → after acc (input_rows_from ins (n + 1) left) ≡ Err (record { row = n + 1; kind = k })
  rows-fault r rest k e h = ap (λ l. after acc (input_rows_from ins (n + 1) l)) e ∙ ap (λ x. after acc (then_rows (n + 1) x (input_rows_from ins (n + 1 + 1) rest))) h

  pub rows-unequal : (r : List (List ℕ)) (rest : List (List (List ℕ))) → n < 100000 → left ≡ r ∷ rest → length r ≢ length ins + 1
      → after acc (input_rows_from ins (n + 1) left) ≡ Err (record { row = n + 1; kind = NotCsv })
  rows-unequal r rest small e h = rows-fault r rest NotCsv e (row-unequal ins n r small h)

  pub rows-more : (r : List (List ℕ)) (rest : List (List (List ℕ))) (vs : List Value) → left ≡ r ∷ rest → row_of ins (n + 1) r ≡ Ok vs
      → after acc (input_rows_from ins (n + 1) left) ≡ after (acc ++ vs ∷ []) (input_rows_from ins (n + 1 + 1) rest)
  rows-more r rest vs e h =
      ap (λ l. after acc (input_rows_from ins (n + 1) l)) e ∙ ap (λ x. after acc (then_rows (n + 1) x (input_rows_from ins (n + 1 + 1) rest))) h
      ∙ after-more acc (n + 1) vs (input_rows_from ins (n + 1 + 1) rest)

  pub rows-past : (r : List (List ℕ)) (rest : List (List (List ℕ))) → n ≡ 100000 → left ≡ r ∷ rest
      → after acc (input_rows_from ins (n + 1) left) ≡ Err (record { row = 100001; kind = TooMany })
  rows-past r rest e h =
      ap (λ l. after acc (input_rows_from ins (n + 1) l)) h ∙ ap (λ k. after acc (then_rows (k + 1) (row_of ins (k + 1) r) (input_rows_from ins (k + 1 + 1) rest))) e

-- ---- what is told

module _ (ins : List Decl) (rows : Result (List (List Value)) InputFault) where
  pub told-table : (table : InputTable) → table.width ≡ length ins → rows ≡ Ok table.rows → ToldWanted (input_table_of (length ins) rows) (Ok table)
  told-table table w e = ap (input_table_of (length ins)) e ∙ ap (λ k. Ok (record { width = k; rows = table.rows })) (sym w)

  pub told-fault : (fault : InputFault) → rows ≡ Err fault → input_table_of (length ins) rows ≡ Err fault
  told-fault fault e = ap (input_table_of (length ins)) e

  -- a fault of a row is the table's
  pub told-row : (acc : List (List Value)) (n : ℕ) (left : List (List (List ℕ))) (r : List (List ℕ)) (rest : List (List (List ℕ))) (e : Or InputKind) (values : List Value)
      → rows ≡ after acc (input_rows_from ins (n + 1) left) → left ≡ r ∷ rest → Fills (row_of ins (n + 1) r) (Err e) values
      → ToldWanted {V = InputTable} (input_table_of (length ins) rows) (Err (at_row (n + 1) e))
  told-row acc n left r rest (Fault k) values is more h = told-fault (record { row = n + 1; kind = k }) (is ∙ rows-fault ins acc n left r rest k more h)
  told-row acc n left r rest Memory values is more h = tt
