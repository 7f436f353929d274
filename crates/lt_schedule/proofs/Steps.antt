-- One row of a schedule.
use Rattle.std.proofs.Common.{◌≡◌, ℕ, ◌+◌, ◌≤◌, ◌<◌, nat_lt, Bool, true, false, List, [], ◌∷◌, ◌++◌, length, Option, Some, None, Result, Ok, Err, if◌then◌else◌, refl, sym, ap, ◌∙◌, arith, inl, inr}
use Rattle.std.specs.Prelude.{IsErrAnd}
use Rattle.std.proofs.lemmas.Bool.Decides.{nat_tests, leb_tells}
use Rattle.lt_rows.specs.declared.fault.RowFault.{RowFault}
use Rattle.lt_rows.specs.declared.fault.RowFault.TheVariants.{NotCsv, TooMany}
use Rattle.lt_rows.specs.declared.fault.LineFault.{LineFault}
use Rattle.lt_rows.specs.declared.fault.LineFault.TheVariants as line
use Rattle.lt_rows.specs.Rows.{FileRow}
use Rattle.lt_rows.specs.Lines.{next_line, IsNearFirst}
use Rattle.lt_schedule.specs.declared.halt.ScheduleRefusal.{ScheduleRefusal}
use Rattle.lt_schedule.specs.declared.halt.ScheduleRefusal.TheVariants.{Row, Offence, Bytes}
use Rattle.lt_schedule.specs.declared.halt.Stop.{Stop}
use Rattle.lt_schedule.specs.declared.halt.Stop.TheVariants as stop
use Rattle.lt_base.specs.declared.memory.Or.{Or}
use Rattle.lt_base.specs.declared.memory.Or.TheVariants as either
use Rattle.lt_schedule.specs.declared.halt.Halt.{Halt}
use Rattle.lt_schedule.specs.declared.halt.Halt.TheVariants as halt
use Rattle.lt_schedule.specs.Rules.{Rules, unless_missing, unless_offence, unless_fault, row_event, judged_behind}
use Rattle.lt_schedule.specs.Taken.{ScheduleTakesLine, StopsAt, StopCountedBy}
use Rattle.lt_schedule.specs.Taken as taken
use Rattle.lt_schedule.specs.Halted.{UnlessFailed, HaltCountedBy, IsHaltMemory, IsRead, halted_by, long_fault}
use Rattle.lt_schedule.specs.Near.{is_past}
use Rattle.lt_schedule.specs.Replayed.{TakesEvent, RefusesLine, IsRow, IsHere, RefusesRow}

pub not_past : (n : ℕ) → n ≤ 1073741824 → nat_lt 1073741824 n ≡ false
not_past n low = grind (arith, nat_tests)

not_many : (n : ℕ) → n ≤ 5000000 → nat_lt 5000000 n ≡ false
not_many n few = grind (arith, nat_tests)

many : (n : ℕ) → 5000000 < n → nat_lt 5000000 n ≡ true
many n above = grind (arith, nat_tests)

-- the row is within the limit
in_limit : (row : FileRow) (later : List FileRow) (end : ℕ) (found : Option (List ℕ)) → next_line (row ∷ later) end ≡ Ok found → row.ends ≤ 1073741824
in_limit row later end found is = elim (leb_tells 1073741825 row.ends) [
  | inl w ↦ let none : ◌≡◌ {A = Result (Option (List ℕ)) LineFault} (Err line.Bytes) (Ok found) = sym (ap (λ (t : Bool). if t then Err line.Bytes else (if nat_lt 4096 (length row.line) then Err line.TooLong else Ok (Some row.line))) w.0) ∙ is in cc
  | inr w ↦ omega (arith, w.1)
]

pub given_limit : (left later : List FileRow) (row : FileRow) (end : ℕ) (found : Option (List ℕ)) → left ≡ row ∷ later → next_line left end ≡ Ok found → row.ends ≤ 1073741824
given_limit left later row end found left_is next = in_limit row later end found (ap (λ (rows : List FileRow). next_line rows end) (sym left_is) ∙ next)

pub end_limit : (end : ℕ) (found : Option (List ℕ)) → next_line [] end ≡ Ok found → end ≤ 1073741824
end_limit end found is = elim (leb_tells 1073741825 end) [
  | inl w ↦ let none : ◌≡◌ {A = Result (Option (List ℕ)) LineFault} (Err line.Bytes) (Ok found) = sym (ap (λ (t : Bool). if t then Err line.Bytes else Ok None) w.0) ∙ is in cc
  | inr w ↦ omega (arith, w.1)
]

-- Why a line is not taken.

pub event_few : {E O : Type 0} (rules : Rules E O) (number : ℕ) (line : List ℕ) → number ≤ 5000000 → row_event rules number line ≡ rules.reads line
event_few rules number line few = ap (λ (b : Bool). if b then Err TooMany else rules.reads line) (not_many number few)

pub event_many : {E O : Type 0} (rules : Rules E O) (number : ℕ) (line : List ℕ) → 5000000 < number → row_event rules number line ≡ Err TooMany
event_many rules number line above = ap (λ (b : Bool). if b then Err TooMany else rules.reads line) (many number above)

event_long : {E O : Type 0} (rules : Rules E O) (number : ℕ) (line : List ℕ) → rules.reads line ≡ Err NotCsv → row_event rules number line ≡ Err (long_fault number)
event_long {E} rules number line long = ap (λ (r : Result E RowFault). if nat_lt 5000000 number then Err TooMany else r) long ∙ by (nat_lt 5000000 number)
  where
    by : (b : Bool) → ◌≡◌ {A = Result E RowFault} (if b then Err TooMany else Err NotCsv) (Err (if b then TooMany else NotCsv))
    by true = refl
    by false = refl

pub taken_event : {E O : Type 0} (rules : Rules E O) (number : ℕ) (line : List ℕ) (stands : List E → Type 0) (before : List E) → number ≤ 5000000 → ScheduleTakesLine rules line stands before → TakesEvent rules number line stands before
taken_event rules number line stands before few takes = record { event = takes.event; reads = event_few rules number line few ∙ takes.reads; free = takes.free; stands_on = takes.stands_on }

pub stopped : {E O : Type 0} (rules : Rules E O) (number : ℕ) (line : List ℕ) (before : List E) (s : Stop O) → number ≤ 5000000 → StopsAt rules line before s → UnlessFailed (RefusesLine rules number line before) (halted_by number s)
stopped rules number line before (stop.Row fault) few is = (refl, event_few rules number line few ∙ is)
stopped rules number line before (stop.Offence offence) few is = (refl, (is.0, event_few rules number line few ∙ is.1, is.2))
stopped rules number line before stop.Link few is = tt
stopped rules number line before stop.Memory few is = tt

pub stopped_counted : {O : Type 0} (before now number : ℕ) (s : Stop O) → StopCountedBy before now s → HaltCountedBy before now (halted_by number s)
stopped_counted before now number (stop.Row fault) is = is
stopped_counted before now number (stop.Offence offence) is = is
stopped_counted before now number stop.Link is = is
stopped_counted before now number stop.Memory is = is

pub stopped_unread : {O : Type 0} (number : ℕ) (s : Stop O) → ¬ IsRead (halted_by number s)
stopped_unread number (stop.Row fault) = λ is. is
stopped_unread number (stop.Offence offence) = λ is. is
stopped_unread number stop.Link = λ is. is
stopped_unread number stop.Memory = λ is. is

pub stopped_prompt : {O : Type 0} (number : ℕ) (s : Stop O) → ¬ taken.IsStopMemory s → ¬ IsHaltMemory (halted_by number s)
stopped_prompt number (stop.Row fault) none = λ is. is
stopped_prompt number (stop.Offence offence) none = λ is. is
stopped_prompt number stop.Link none = λ is. is
stopped_prompt number stop.Memory none = none

-- A row within the limit.
module _ {E O : Type 0} (rules : Rules E O) (before : List E) (number end : ℕ) (row : FileRow) (later : List FileRow) (low : row.ends ≤ 1073741824) where
  judged_row : judged_behind rules before number end (row ∷ later)
      ≡ unless_fault number (row_event rules number row.line) (λ e. unless_offence number (rules.offence before e) (judged_behind rules (before ++ e ∷ []) (number + 1) end later))
  unfolding judged_behind
  judged_row =
      ap (λ (b : Bool). if b then Err Bytes else
      unless_fault number (row_event rules number row.line) (λ e. unless_offence number (rules.offence before e) (judged_behind rules (before ++ e ∷ []) (number + 1) end later)))
      (not_past row.ends low)

  judged_read : (r : Result E RowFault) → row_event rules number row.line ≡ r
      → judged_behind rules before number end (row ∷ later) ≡ unless_fault number r (λ e. unless_offence number (rules.offence before e) (judged_behind rules (before ++ e ∷ []) (number + 1) end later))
  judged_read r reads =
      judged_row
      ∙ ap (λ (q : Result E RowFault). unless_fault number q (λ e. unless_offence number (rules.offence before e) (judged_behind rules (before ++ e ∷ []) (number + 1) end later))) reads

  pub judged_event : (e : E) → row_event rules number row.line ≡ Ok e → rules.offence before e ≡ None → judged_behind rules before number end (row ∷ later) ≡ judged_behind rules (before ++ e ∷ []) (number + 1) end later
  judged_event e reads free = judged_read (Ok e) reads ∙ ap (λ (o : Option O). unless_offence number o (judged_behind rules (before ++ e ∷ []) (number + 1) end later)) free

  pub judged_fault : (fault : RowFault) → row_event rules number row.line ≡ Err fault → judged_behind rules before number end (row ∷ later) ≡ Err (Row number fault)
  judged_fault fault reads = judged_read (Err fault) reads

  pub judged_offence : (e : E) (offence : O) → row_event rules number row.line ≡ Ok e → rules.offence before e ≡ Some offence → judged_behind rules before number end (row ∷ later) ≡ Err (Offence number offence)
  judged_offence e offence reads broken = judged_read (Ok e) reads ∙ ap (λ (o : Option O). unless_offence number o (judged_behind rules (before ++ e ∷ []) (number + 1) end later)) broken

module _ {E O : Type 0} (rules : Rules E O) (before : List E) (number end : ℕ) (left later : List FileRow) (row : FileRow) (left_is : left ≡ row ∷ later) (low : row.ends ≤ 1073741824) where
  -- its line was taken as an event
  pub is_row : (e : E) → row_event rules number row.line ≡ Ok e → rules.offence before e ≡ None → IsRow rules before number end left later e
  is_row e reads free = record {
    row = row;
    left_is = left_is;
    in_limit = low;
    verdict = ap (judged_behind rules before number end) left_is ∙ judged_event rules before number end row later low e reads free;
  }

  -- it is refused
  pub refuses_line : (place : ℕ) (refusal : ScheduleRefusal O) → RefusesLine rules number row.line before refusal → IsNearFirst left place → RefusesRow rules before number end left place refusal
  refuses_line place (Row r fault) is near = record {
    verdict = ap (judged_behind rules before number end) left_is ∙ judged_fault rules before number end row later low fault is.1 ∙ ap (λ (n : ℕ). Err (Row n fault)) (sym is.0);
    here = is.0;
    near = near;
  }
  refuses_line place (Offence r offence) is near = record {
    verdict = ap (judged_behind rules before number end) left_is ∙ judged_offence rules before number end row later low is.1.0 offence is.1.1 is.1.2 ∙ ap (λ (n : ℕ). Err (Offence n offence)) (sym is.0);
    here = is.0;
    near = near;
  }
  refuses_line place Bytes is near = absurd is

  pub refuses_unless : (place : ℕ) (h : Or (Halt O)) → UnlessFailed (RefusesLine rules number row.line before) h → IsNearFirst left place → UnlessFailed (RefusesRow rules before number end left place) h
  refuses_unless place (either.Fault (halt.Refused refusal)) is near = refuses_line place refusal is near
  refuses_unless place (either.Fault halt.Read) is near = tt
  refuses_unless place (either.Fault halt.Link) is near = tt
  refuses_unless place either.Memory is near = tt

-- A row that is not given.

pub long_row : (left : List FileRow) (end : ℕ) → next_line left end ≡ Err line.TooLong → (row : FileRow) × (later : List FileRow) × (left ≡ row ∷ later) × (row.ends ≤ 1073741824) × (4096 < length row.line)
long_row [] end is = elim (leb_tells 1073741825 end) [
  | inl w ↦ let none : ◌≡◌ {A = Result (Option (List ℕ)) LineFault} (Err line.Bytes) (Err line.TooLong) = sym (ap (λ (t : Bool). if t then Err line.Bytes else Ok None) w.0) ∙ is in cc
  | inr w ↦ let none : ◌≡◌ {A = Result (Option (List ℕ)) LineFault} (Ok None) (Err line.TooLong) = sym (ap (λ (t : Bool). if t then Err line.Bytes else Ok None) w.0) ∙ is in cc
]
long_row (row ∷ later) end is = elim (leb_tells 1073741825 row.ends) [
  | inl w ↦ let none : ◌≡◌ {A = Result (Option (List ℕ)) LineFault} (Err line.Bytes) (Err line.TooLong) = sym (ap (λ (t : Bool). if t then Err line.Bytes else (if nat_lt 4096 (length row.line) then Err line.TooLong else Ok (Some row.line))) w.0) ∙ is in cc
  | inr w ↦ elim (leb_tells 4097 (length row.line)) [
    | inl v ↦ (row, later, refl, omega (arith, w.1), omega (arith, v.1))
    | inr v ↦
        let none : ◌≡◌ {A = Result (Option (List ℕ)) LineFault} (Ok (Some row.line)) (Err line.TooLong) =
        sym (ap (λ (t : Bool). if t then Err line.Bytes else (if nat_lt 4096 (length row.line) then Err line.TooLong else Ok (Some row.line))) w.0 ∙ ap (λ (t : Bool). if t then Err line.TooLong else Ok (Some row.line)) v.0) ∙ is in
        cc
  ]
]

-- its line is too long
pub refuses_long : {E O : Type 0} (rules : Rules E O) (before : List E) (number end : ℕ) (left : List FileRow) (place : ℕ) → next_line left end ≡ Err line.TooLong
    → ((text : List ℕ) → 4096 < length text → rules.reads text ≡ Err NotCsv) → IsNearFirst left place → RefusesRow rules before number end left place (Row number (long_fault number))
refuses_long rules before number end left place is long near =
    let found = long_row left end is in
    refuses_line rules before number end left found.1 found.0 found.2 found.3 place (Row number (long_fault number))
    (refl, event_long rules number found.0.line (long found.0.line found.4)) near

-- the first row, or the end, is past the limit
pub past_first : (O : Type 0) (number : ℕ) (left : List FileRow) (end : ℕ) → next_line left end ≡ Err line.Bytes → IsHere {O = O} number left Bytes × (left ≡ [] → 1073741824 < end)
past_first O number [] end is = (
  tt,
  λ _. elim (leb_tells 1073741825 end) [
    | inl w ↦ omega (arith, w.1)
    | inr w ↦ let none : ◌≡◌ {A = Result (Option (List ℕ)) LineFault} (Ok None) (Err line.Bytes) = sym (ap (λ (t : Bool). if t then Err line.Bytes else Ok None) w.0) ∙ is in cc
  ],
)
past_first O number (row ∷ later) end is = (first, λ none. cc)
  where
    first : is_past row ≡ true
    first = elim (leb_tells 1073741825 row.ends) [
      | inl w ↦ w.0
      | inr w ↦ elim (leb_tells 4097 (length row.line)) [
        | inl v ↦
            let none : ◌≡◌ {A = Result (Option (List ℕ)) LineFault} (Err line.TooLong) (Err line.Bytes) =
            sym (ap (λ (t : Bool). if t then Err line.Bytes else (if nat_lt 4096 (length row.line) then Err line.TooLong else Ok (Some row.line))) w.0 ∙ ap (λ (t : Bool). if t then Err line.TooLong else Ok (Some row.line)) v.0) ∙ is in
            cc
        | inr v ↦
            let none : ◌≡◌ {A = Result (Option (List ℕ)) LineFault} (Ok (Some row.line)) (Err line.Bytes) =
            sym (ap (λ (t : Bool). if t then Err line.Bytes else (if nat_lt 4096 (length row.line) then Err line.TooLong else Ok (Some row.line))) w.0 ∙ ap (λ (t : Bool). if t then Err line.TooLong else Ok (Some row.line)) v.0) ∙ is in
            cc
      ]
    ]

pub past : (n : ℕ) → 1073741824 < n → nat_lt 1073741824 n ≡ true
past n high = grind (arith, nat_tests)

past_row : {E O : Type 0} (rules : Rules E O) (before : List E) (number end : ℕ) (left : List FileRow) → IsHere {O = O} number left Bytes → (left ≡ [] → 1073741824 < end) → judged_behind rules before number end left ≡ Err Bytes
unfolding judged_behind
past_row rules before number end [] here high = ap (λ (b : Bool). if b then Err Bytes else unless_missing number (rules.missing before) before) (past end (high refl))
past_row rules before number end (row ∷ later) here high =
    ap (λ (b : Bool). if b then Err Bytes else
    unless_fault number (row_event rules number row.line) (λ e. unless_offence number (rules.offence before e) (judged_behind rules (before ++ e ∷ []) (number + 1) end later))) here

-- it holds the first byte past the limit
pub refuses_bytes : {E O : Type 0} (rules : Rules E O) (before : List E) (number end : ℕ) (left : List FileRow) (place : ℕ) → next_line left end ≡ Err line.Bytes → IsNearFirst left place
    → RefusesRow rules before number end left place Bytes
refuses_bytes {E} {O} rules before number end left place is near =
    let first = past_first O number left end is in
    record { verdict = past_row rules before number end left first.0 first.1; here = first.0; near = near }

-- the only error
pub err_is : {T E : Type 0} (r : Result T E) (e : E) → IsErrAnd r (λ f. f ≡ e) → r ≡ Err e
err_is (Ok x) e is = absurd is
err_is (Err f) e is = ap (λ g. Err g) is
