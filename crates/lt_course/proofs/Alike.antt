-- Rows are judged alike by rules that differ in what they tell of an offence alone.
use Rattle.std.proofs.Common.{◌≡◌, ℕ, ◌+◌, nat_lt, Bool, true, false, List, [], ◌∷◌, ◌++◌, length, drop, Option, Some, None, Result, Ok, Err, if◌then◌else◌, refl, sym, ap, subst}
use Rattle.lt_rows.specs.declared.fault.RowFault.{RowFault}
use Rattle.lt_rows.specs.declared.fault.RowFault.TheVariants.{Header, TooMany}
use Rattle.lt_rows.specs.Limits.{most_bytes, most_events}
use Rattle.lt_rows.specs.Events.{header_fault}
use Rattle.lt_rows.specs.Rows.{FileRow, rows_of}
use Rattle.lt_schedule.specs.declared.halt.ScheduleRefusal.{ScheduleRefusal}
use Rattle.lt_schedule.specs.declared.halt.ScheduleRefusal.TheVariants.{Row, Offence, Bytes}
use Rattle.lt_schedule.specs.Rules.{Rules, file_judged_by, header_refusal, judged_behind, row_event, row_zero, unless_fault, unless_missing, unless_offence, unless_refused}

-- both or neither
abbrev pub SameCase : {O P : Type 0} → Option O → Option P → Type 0
SameCase None None = Unit {0}
SameCase None (Some y) = ⊥
SameCase (Some x) None = ⊥
SameCase (Some x) (Some y) = Unit {0}

-- the same refusal, be it for another offence at the same event
abbrev pub SameRefusal : {O P : Type 0} → ScheduleRefusal O → ScheduleRefusal P → Type 0
SameRefusal (Row row f) (Row row' f') = (row ≡ row') × (f ≡ f')
SameRefusal (Row row f) (Offence m y) = ⊥
SameRefusal (Row row f) Bytes = ⊥
SameRefusal (Offence n x) (Row row f) = ⊥
SameRefusal (Offence n x) (Offence m y) = n ≡ m
SameRefusal (Offence n x) Bytes = ⊥
SameRefusal Bytes (Row row f) = ⊥
SameRefusal Bytes (Offence m y) = ⊥
SameRefusal Bytes Bytes = Unit {0}

-- the same events, or the same refusal
abbrev pub AreAlikeReads : {E O P : Type 0} → Result (List E) (ScheduleRefusal O) → Result (List E) (ScheduleRefusal P) → Type 0
AreAlikeReads (Ok es) (Ok ds) = es ≡ ds
AreAlikeReads (Ok es) (Err r) = ⊥
AreAlikeReads (Err r) (Ok ds) = ⊥
AreAlikeReads (Err r) (Err q) = SameRefusal r q

abbrev SameFirst : {O P : Type 0} → Option (ScheduleRefusal O) → Option (ScheduleRefusal P) → Type 0
SameFirst None None = Unit {0}
SameFirst None (Some q) = ⊥
SameFirst (Some r) None = ⊥
SameFirst (Some r) (Some q) = SameRefusal r q

module _ {E O P : Type 0} (R : Rules E O) (Q : Rules E P) (reads : (line : List ℕ) → R.reads line ≡ Q.reads line) (offences : (before : List E) (e : E) → SameCase (R.offence before e) (Q.offence before e))
    (missing : (before : List E) → SameCase (R.missing before) (Q.missing before)) where
  alike_bytes : (past : Bool) (r : Result (List E) (ScheduleRefusal O)) (q : Result (List E) (ScheduleRefusal P)) → AreAlikeReads r q → AreAlikeReads (if past then Err Bytes else r) (if past then Err Bytes else q)
  alike_bytes true r q same = tt
  alike_bytes false r q same = same

  alike_missing : (n : ℕ) (before : List E) (o : Option O) (p : Option P) → SameCase o p → AreAlikeReads (unless_missing n o before) (unless_missing n p before)
  alike_missing n before None None same = refl
  alike_missing n before None (Some y) same = absurd same
  alike_missing n before (Some x) None same = absurd same
  alike_missing n before (Some x) (Some y) same = refl

  alike_offence : (n : ℕ) (o : Option O) (p : Option P) (r : Result (List E) (ScheduleRefusal O)) (q : Result (List E) (ScheduleRefusal P)) → SameCase o p → AreAlikeReads r q → AreAlikeReads (unless_offence n o r) (unless_offence n p q)
  alike_offence n None None r q same later = later
  alike_offence n None (Some y) r q same later = absurd same
  alike_offence n (Some x) None r q same later = absurd same
  alike_offence n (Some x) (Some y) r q same later = refl

  alike_fault : (n : ℕ) (read : Result E RowFault) (f : E → Result (List E) (ScheduleRefusal O)) (g : E → Result (List E) (ScheduleRefusal P)) → ((e : E) → AreAlikeReads (f e) (g e)) → AreAlikeReads (unless_fault n read f) (unless_fault n read g)
  alike_fault n (Err fault) f g later = (refl, refl)
  alike_fault n (Ok e) f g later = later e

  row_same : (n : ℕ) (line : List ℕ) → row_event R n line ≡ row_event Q n line
  row_same n line = ap (λ (read : Result E RowFault). if nat_lt most_events n then Err TooMany else read) (reads line)

  alike_behind : (rows : List FileRow) (before : List E) (n end : ℕ) → AreAlikeReads (judged_behind R before n end rows) (judged_behind Q before n end rows)
  unfolding judged_behind
  alike_behind [] before n end = alike_bytes (nat_lt most_bytes end) _ _ (alike_missing n before (R.missing before) (Q.missing before) (missing before))
  alike_behind (row ∷ later) before n end =
      alike_bytes (nat_lt most_bytes row.ends) _ _
      (subst (λ (read : Result E RowFault). AreAlikeReads (unless_fault n read (λ e. unless_offence n (R.offence before e) (judged_behind R (before ++ e ∷ []) (n + 1) end later))) (unless_fault n (row_event Q n row.line) (λ e. unless_offence n (Q.offence before e) (judged_behind Q (before ++ e ∷ []) (n + 1) end later)))) (sym (row_same n row.line))
      (alike_fault n (row_event Q n row.line) _ _ (λ e. alike_offence n (R.offence before e) (Q.offence before e) _ _ (offences before e) (alike_behind later (before ++ e ∷ []) (n + 1) end))))

  alike_first : (a : Option (ScheduleRefusal O)) (b : Option (ScheduleRefusal P)) (r : Result (List E) (ScheduleRefusal O)) (q : Result (List E) (ScheduleRefusal P)) → SameFirst a b → AreAlikeReads r q → AreAlikeReads (unless_refused a r) (unless_refused b q)
  alike_first None None r q same later = later
  alike_first None (Some b) r q same later = absurd same
  alike_first (Some a) None r q same later = absurd same
  alike_first (Some a) (Some b) r q same later = same

  zero_same : (f : Option RowFault) → SameFirst (row_zero {O = O} f) (row_zero {O = P} f)
  zero_same None = tt
  zero_same (Some f) = (refl, refl)

  past_same : (past : Bool) (a : Option (ScheduleRefusal O)) (b : Option (ScheduleRefusal P)) → SameFirst a b → SameFirst (if past then Some Bytes else a) (if past then Some Bytes else b)
  past_same true a b same = tt
  past_same false a b same = same

  header_same : (end : ℕ) (rows : List FileRow) → SameFirst (header_refusal {O = O} end rows) (header_refusal {O = P} end rows)
  unfolding header_refusal
  header_same end [] = past_same (nat_lt most_bytes end) (Some (Row 0 Header)) (Some (Row 0 Header)) (refl, refl)
  header_same end (row ∷ later) = past_same (nat_lt most_bytes row.ends) (row_zero (header_fault row.line)) (row_zero (header_fault row.line)) (zero_same (header_fault row.line))

  pub alike_file : (bytes : List ℕ) → AreAlikeReads (file_judged_by R bytes) (file_judged_by Q bytes)
  alike_file bytes = alike_first (header_refusal (length bytes) (rows_of bytes)) (header_refusal (length bytes) (rows_of bytes)) _ _ (header_same (length bytes) (rows_of bytes)) (alike_behind (drop 1 (rows_of bytes)) [] 1 (length bytes))
