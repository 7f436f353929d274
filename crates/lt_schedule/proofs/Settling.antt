-- The verdict on rows that read as events is their first offence.
use Rattle.std.proofs.Common.{◌≡◌, ◌≤◌, ℕ, ◌+◌, nat_lt, Bool, true, false, List, [], ◌∷◌, ◌++◌, length, map, Option, Some, None, Result, Ok, Err, is_some, if◌then◌else◌, refl, sym, ap, subst, ◌∙◌, append_assoc, arith, lit≤}
use Rattle.std.specs.List.{All}
use Rattle.std.proofs.lemmas.Bool.Decides.{nat_tests}
use Rattle.std.proofs.lemmas.List.Elements.{All-cons, All-nil, All-head, All-tail}
use Rattle.lt_arch.specs.declared.event.Event.{Event}
use Rattle.lt_arch.specs.declared.event.Offence as arch
use Rattle.lt_arch.specs.declared.event.Offence.TheVariants.{NoEnd}
use Rattle.lt_arch.specs.declared.shape.Shape.{Shape}
use Rattle.lt_arch.specs.declared.timing.Timing.{Timing}
use Rattle.lt_arch.specs.State.{start}
use Rattle.lt_arch.specs.Step.{offence_of, after}
use Rattle.lt_arch.specs.Schedule.{first_offence, first_offence_from, missing_end, numbered_or, reached}
use Rattle.lt_rows.specs.declared.fault.RowFault.{RowFault}
use Rattle.lt_rows.specs.declared.fault.RowFault.TheVariants.{Header, TooMany}
use Rattle.lt_rows.specs.Rows.{FileRow}
use Rattle.lt_rows.specs.Events.{header_fault, event_of}
use Rattle.lt_schedule.specs.declared.halt.ScheduleRefusal.{ScheduleRefusal}
use Rattle.lt_schedule.specs.declared.halt.ScheduleRefusal.TheVariants.{Row, Offence, Bytes}
use Rattle.lt_schedule.specs.Rules.{unless_missing, unless_offence, unless_fault, row_event, judged_behind, row_zero, header_refusal, unless_refused, judged_by}
use Rattle.lt_schedule.specs.Verdict.{unended, rules_of, or_fault, judged_rows}
use Rattle.lt_schedule.specs.Settled.{RowIsWithin, event_in_row, read_event, ReadAs, settled}
use Rattle.lt_schedule.proofs.Steps.{not_past, event_few, judged_event, judged_offence}
use Rattle.lt_schedule.proofs.Pushed.{after_push}

low_of : (n : ℕ) → nat_lt 1073741824 n ≡ false → n ≤ 1073741824
low_of n is = grind (arith, nat_tests)

few_of : (n : ℕ) → nat_lt 5000000 n ≡ false → n ≤ 5000000
few_of n is = grind (arith, nat_tests)

append_nil : {A : Type 0} (xs : List A) → xs ++ [] ≡ xs
append_nil [] = refl
append_nil (x ∷ xs) = ap (λ (ys : List _). x ∷ ys) (append_nil xs)

push_append : {A : Type 0} (xs : List A) (y : A) (ys : List A) → (xs ++ y ∷ []) ++ ys ≡ xs ++ y ∷ ys
push_append xs y ys = append_assoc xs (y ∷ []) ys

-- the first row's event, and those of the others
head_reads : (s : Shape) (row : FileRow) (later : List FileRow) (e : Event) (es : List Event) → map (event_in_row s) (row ∷ later) ≡ map read_event (e ∷ es) → event_of s row.line ≡ Ok e
head_reads s row later e es reads = cc

tail_reads : (s : Shape) (row : FileRow) (later : List FileRow) (e : Event) (es : List Event) → map (event_in_row s) (row ∷ later) ≡ map read_event (e ∷ es) → map (event_in_row s) later ≡ map read_event es
tail_reads s row later e es reads = cc

-- all events, or the first offence
abbrev refused : List Event → Option (ℕ × arch.Offence) → Result (List Event) (ScheduleRefusal arch.Offence)
refused events None = Ok events
refused events (Some found) = Err (Offence found.0 found.1)

refused_settled : (events : List Event) (found : Option (ℕ × arch.Offence)) → or_fault (refused events found) ≡ settled events found
refused_settled events None = refl
refused_settled events (Some found) = refl

missing_by : (number : ℕ) (ended : Bool) (before : List Event) → unless_missing number (if ended then None else Some NoEnd) before ≡ refused before (if ended then None else Some (number, NoEnd))
missing_by number true before = refl
missing_by number false before = refl

module _ (s : Shape) (t : Timing) (rows end : ℕ) where
  over : (before : List Event) (number : ℕ) → end ≤ 1073741824 → judged_behind (rules_of s t rows) before number end [] ≡ refused (before ++ []) (missing_end (reached s t rows before) number)
  unfolding judged_behind
  over before number low =
      ap (λ (b : Bool). if b then Err Bytes else unless_missing number (unended (reached s t rows before)) before) (not_past end low)
      ∙ missing_by number (is_some (reached s t rows before).horizon) before
      ∙ ap (λ (es : List Event). refused es (missing_end (reached s t rows before) number)) (sym (append_nil before))

  module _ (before : List Event) (number : ℕ) (row : FileRow) (later : List FileRow) (e : Event) (es : List Event) (within : row.ends ≤ 1073741824) (reads : row_event (rules_of s t rows) number row.line ≡ Ok e) where
    next : ℕ → List Event → Option (ℕ × arch.Offence)
    next n xs = first_offence_from s t rows (after s t rows (reached s t rows before) e) n xs

    one_row : (o : Option arch.Offence) → offence_of s t (reached s t rows before) e ≡ o
        → judged_behind (rules_of s t rows) (before ++ e ∷ []) (number + 1) end later ≡ refused ((before ++ e ∷ []) ++ es) (first_offence_from s t rows (reached s t rows (before ++ e ∷ [])) (number + 1) es)
        → judged_behind (rules_of s t rows) before number end (row ∷ later) ≡ refused (before ++ e ∷ es) (numbered_or number o (first_offence_from s t rows (after s t rows (reached s t rows before) e) (number + 1) es))
    one_row None is rest =
        judged_event (rules_of s t rows) before number end row later within e reads is ∙ rest
        ∙ (λ i. refused (push_append before e es i) (first_offence_from s t rows (after_push s t rows (start t.protocol) before e i) (number + 1) es))
    one_row (Some offence) is rest = judged_offence (rules_of s t rows) before number end row later within e offence reads is

  settles : (left : List FileRow) (before : List Event) (number : ℕ) (es : List Event) → end ≤ 1073741824 → All RowIsWithin left → map (event_in_row s) left ≡ map read_event es → number + length left ≤ 5000001
      → judged_behind (rules_of s t rows) before number end left ≡ refused (before ++ es) (first_offence_from s t rows (reached s t rows before) number es)
  settles [] before number [] low within reads few = over before number low
  settles [] before number (e ∷ es) low within reads few = cc
  settles (row ∷ later) before number [] low within reads few = cc
  settles (row ∷ later) before number (e ∷ es) low within reads few =
      one_row before number row later e es (All-head RowIsWithin row later within)
      (event_few (rules_of s t rows) number row.line (omega (arith, few)) ∙ head_reads s row later e es reads) (offence_of s t (reached s t rows before) e) refl
      (settles later (before ++ e ∷ []) (number + 1) es low (All-tail RowIsWithin row later within) (tail_reads s row later e es reads) (omega (arith, few)))

  -- with a header before them
  pub settles_rows : (left : List FileRow) (es : List Event) → ReadAs s end left es → judged_rows s t rows end left ≡ settled es (first_offence s t rows es)
  unfolding header_refusal
  settles_rows left es reads =
      let within : All RowIsWithin (reads.header ∷ reads.later) = subst (All RowIsWithin) reads.left_is reads.rows_within in
      let header : header_refusal {O = arch.Offence} end (reads.header ∷ reads.later) ≡ None =
      ap (λ (b : Bool). if b then Some Bytes else row_zero (header_fault reads.header.line)) (not_past reads.header.ends (All-head RowIsWithin reads.header reads.later within)) ∙ ap (row_zero {O = arch.Offence}) reads.header_reads in
      ap (judged_rows s t rows end) reads.left_is
      ∙ ap or_fault
      (ap (λ (r : Option (ScheduleRefusal arch.Offence)). unless_refused r (judged_behind (rules_of s t rows) [] 1 end reads.later)) header
      ∙ settles reads.later [] 1 es reads.end_within (All-tail RowIsWithin reads.header reads.later within) reads.events_read (let few : length reads.later ≤ 5000000 = reads.few in omega (arith, few)))
      ∙ refused_settled es (first_offence s t rows es)

-- Rows that are accepted read as events.

end_back : (number end : ℕ) (past : Bool) (o : Option arch.Offence) (before es : List Event) → nat_lt 1073741824 end ≡ past → (if past then Err Bytes else unless_missing number o before) ≡ Ok es → (es ≡ before) × (end ≤ 1073741824)
end_back number end true o before es is ok = cc
end_back number end false None before es is ok = (cc, low_of end is)
end_back number end false (Some offence) before es is ok = cc

-- the row of an event that is followed by others
record Back (r : Result Event RowFault) (past : Bool) (later : Event → Result (List Event) (ScheduleRefusal arch.Offence)) (es : List Event) : Type 0 where
  event : Event
  reads : r ≡ Ok event
  within : past ≡ false
  rest : later event ≡ Ok es

row_back : (number : ℕ) (past : Bool) (r : Result Event RowFault) (offences : Event → Option arch.Offence) (later : Event → Result (List Event) (ScheduleRefusal arch.Offence)) (es : List Event)
    → (if past then Err Bytes else unless_fault number r (λ e. unless_offence number (offences e) (later e))) ≡ Ok es → Back r past later es
row_back number true r offences later es ok = cc
row_back number false (Err fault) offences later es ok = cc
row_back number false (Ok e) offences later es ok = by (offences e) ok
  where
    by : (o : Option arch.Offence) → unless_offence number o (later e) ≡ Ok es → Back (Ok e) false later es
    by None ok = record { event = e; reads = refl; within = refl; rest = ok }
    by (Some offence) ok = cc

event_back : (s : Shape) (number : ℕ) (line : List ℕ) (many : Bool) (e : Event) → nat_lt 5000000 number ≡ many → (if many then Err TooMany else event_of s line) ≡ Ok e → (number ≤ 5000000) × (event_of s line ≡ Ok e)
event_back s number line true e is ok = cc
event_back s number line false e is ok = (few_of number is, ok)

-- what rows are known to be of which the first has this number, and behind which the events are these
record ReadFrom (s : Shape) (number end : ℕ) (left : List FileRow) (before es : List Event) : Type 0 where
  events : List Event
  es_is : es ≡ before ++ events
  events_read : map (event_in_row s) left ≡ map read_event events
  rows_within : All RowIsWithin left
  end_within : end ≤ 1073741824
  few : number ≤ 5000001 → number + length left ≤ 5000001

module _ (s : Shape) (t : Timing) (rows end : ℕ) where
  reads_back : (left : List FileRow) (before : List Event) (number : ℕ) (es : List Event) → judged_behind (rules_of s t rows) before number end left ≡ Ok es → ReadFrom s number end left before es
  unfolding judged_behind
  reads_back [] before number es ok =
      let over = end_back number end (nat_lt 1073741824 end) (unended (reached s t rows before)) before es refl ok in
      record { events = []; es_is = over.0 ∙ sym (append_nil before); events_read = refl; rows_within = All-nil RowIsWithin; end_within = over.1; few = λ low. omega (arith, low) }
  reads_back (row ∷ later) before number es ok =
      let first = row_back number (nat_lt 1073741824 row.ends) (row_event (rules_of s t rows) number row.line) (λ e. offence_of s t (reached s t rows before) e)
      (λ e. judged_behind (rules_of s t rows) (before ++ e ∷ []) (number + 1) end later) es ok in
      let event = event_back s number row.line (nat_lt 5000000 number) first.event refl first.reads in
      let behind = reads_back later (before ++ first.event ∷ []) (number + 1) es first.rest in
      record {
        events = first.event ∷ behind.events;
        es_is = behind.es_is ∙ push_append before first.event behind.events;
        events_read = λ i. event.1 i ∷ behind.events_read i;
        rows_within = All-cons RowIsWithin row later (low_of row.ends first.within) behind.rows_within;
        end_within = behind.end_within;
        few = λ low. let more : number + 1 + length later ≤ 5000001 = behind.few (let n : number ≤ 5000000 = event.0 in omega (arith, n)) in omega (arith, more);
      }

ok_back : (r : Result (List Event) (ScheduleRefusal arch.Offence)) (es : List Event) → or_fault r ≡ Ok es → r ≡ Ok es
ok_back (Ok xs) es ok = let same : xs ≡ es = cc in ap (λ (ys : List Event). Ok ys) same
ok_back (Err refusal) es ok = cc

header_back : (past : Bool) (h : Option RowFault) (later : Result (List Event) (ScheduleRefusal arch.Offence)) (es : List Event) → unless_refused (if past then Some Bytes else row_zero h) later ≡ Ok es → (past ≡ false) × (h ≡ None) × (later ≡ Ok es)
header_back true h later es ok = cc
header_back false None later es ok = (refl, refl, ok)
header_back false (Some fault) later es ok = cc

none_back : (past : Bool) (later : Result (List Event) (ScheduleRefusal arch.Offence)) (es : List Event) → unless_refused (if past then Some Bytes else Some (Row 0 Header)) later ≡ Ok es → ⊥
none_back true later es ok = cc
none_back false later es ok = cc

pub accepted_reads : (s : Shape) (t : Timing) (rows end : ℕ) (left : List FileRow) (es : List Event) → judged_rows s t rows end left ≡ Ok es → ReadAs s end left es
unfolding header_refusal
accepted_reads s t rows end [] es ok = absurd (none_back (nat_lt 1073741824 end) (judged_behind (rules_of s t rows) [] 1 end []) es (ok_back (judged_by (rules_of s t rows) end []) es ok))
accepted_reads s t rows end (row ∷ later) es ok =
    let header = header_back (nat_lt 1073741824 row.ends) (header_fault row.line) (judged_behind (rules_of s t rows) [] 1 end later) es (ok_back (judged_by (rules_of s t rows) end (row ∷ later)) es ok) in
    let from = reads_back s t rows end later [] 1 es header.2 in
    record {
      header = row;
      later = later;
      left_is = refl;
      header_reads = header.1;
      events_read = from.events_read ∙ ap (map read_event) (sym from.es_is);
      few = let most : 1 + length later ≤ 5000001 = from.few (lit≤ tt) in omega (arith, most);
      rows_within = All-cons RowIsWithin row later (low_of row.ends header.0) from.rows_within;
      end_within = from.end_within;
    }
