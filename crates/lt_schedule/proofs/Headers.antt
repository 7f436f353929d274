-- The header of a schedule, and the whole file.
use Rattle.std.proofs.Common.{◌≡◌, ℕ, ◌+◌, ◌≤◌, ◌<◌, Bool, IsTrue, List, [], ◌∷◌, length, drop, Option, Some, None, Result, Ok, Err, if◌then◌else◌, refl, sym, ap, subst, ◌∙◌, arith}
use Rattle.std.specs.Prelude.{IfSome, MatchResult, slice_get}
use Rattle.lt_io.specs.FilesState.{FilesState, file_left}
use Rattle.lt_rows.specs.declared.fault.RowFault.{RowFault}
use Rattle.lt_rows.specs.declared.fault.RowFault.TheVariants.{Header, NotCsv}
use Rattle.lt_rows.specs.declared.fault.LineFault.TheVariants as line
use Rattle.lt_rows.specs.Rows.{FileRow, lines_of, rows_from, rows_of}
use Rattle.lt_rows.specs.Events.{header_in, header_fault}
use Rattle.lt_rows.specs.Lines.{LinesState, fresh_lines, rows_ahead, end_ahead, next_line, IsNearFirst}
use Rattle.lt_rows.proofs.Commas.{none_long}
use Rattle.lt_schedule.specs.declared.halt.ScheduleRefusal.{ScheduleRefusal}
use Rattle.lt_schedule.specs.declared.halt.ScheduleRefusal.TheVariants.{Row, Bytes}
use Rattle.lt_base.specs.declared.memory.Or.{Or}
use Rattle.lt_base.specs.declared.memory.Or.TheVariants as either
use Rattle.lt_schedule.specs.declared.halt.Halt.{Halt}
use Rattle.lt_schedule.specs.declared.halt.Halt.TheVariants as halt
use Rattle.lt_schedule.specs.Rules.{Rules, row_zero, header_refusal, unless_refused, judged_behind, judged_by, file_judged_by}
use Rattle.lt_schedule.specs.Halted.{UnlessFailed, HaltCountedBy, IsLink}
use Rattle.lt_schedule.specs.Near.{IsNearIn}
use Rattle.lt_schedule.specs.Replayed.{IsHere, TakesAll, RefusesSome, HasHeader, LacksHeader, TakesRows, RefusesRows, TakesFile, RefusesFile}
use Rattle.lt_schedule.proofs.Steps.{not_past, past, given_limit, end_limit, long_row, past_first}
use Rattle.lt_schedule.proofs.Rounds.{near_past}

near_get : (file_left : List FileRow) (place : ℕ) → IsNearFirst file_left place → IfSome (slice_get file_left 0) (λ row. place ≤ row.ends + 65536)
near_get [] place near = tt
near_get (row ∷ later) place near = near

-- a first row within the limit
first_refusal : {O : Type 0} (end : ℕ) (row : FileRow) (later : List FileRow) → row.ends ≤ 1073741824 → header_refusal {O = O} end (row ∷ later) ≡ row_zero (header_fault row.line)
unfolding header_refusal
first_refusal {O} end row later low = ap (λ (b : Bool). if b then Some Bytes else row_zero (header_fault row.line)) (not_past row.ends low)

pub has_header : (file_left later : List FileRow) (row : FileRow) (end : ℕ) (found : Option (List ℕ)) → file_left ≡ row ∷ later → next_line file_left end ≡ Ok found → header_fault row.line ≡ None → HasHeader file_left later
has_header file_left later row end found left_is next reads = record { header = row; left_is = left_is; in_limit = given_limit file_left later row end found left_is next; reads = reads }

module _ {O : Type 0} where
  lacks : (file_left later : List FileRow) (row : FileRow) (end place : ℕ) (fault : RowFault) → file_left ≡ row ∷ later → row.ends ≤ 1073741824 → header_fault row.line ≡ Some fault → IsNearFirst file_left place → LacksHeader {O = O} end file_left place (Row 0 fault)
  lacks file_left later row end place fault left_is low reads near = record {
    refuses = ap (header_refusal end) left_is ∙ first_refusal end row later low ∙ ap (row_zero {O = O}) reads;
    near = near_get file_left place near;
  }

  -- another first line
  pub other_header : (file_left later : List FileRow) (row : FileRow) (end place : ℕ) (found : Option (List ℕ)) (fault : RowFault) → file_left ≡ row ∷ later → next_line file_left end ≡ Ok found → header_fault row.line ≡ Some fault
      → IsNearFirst file_left place → LacksHeader {O = O} end file_left place (Row 0 fault)
  other_header file_left later row end place found fault left_is next reads near = lacks file_left later row end place fault left_is (given_limit file_left later row end found left_is next) reads near

  pub no_header : (file_left : List FileRow) (end place : ℕ) (found : Option (List ℕ)) → file_left ≡ [] → next_line file_left end ≡ Ok found → LacksHeader {O = O} end file_left place (Row 0 Header)
  unfolding header_refusal
  no_header file_left end place found none next =
      let low = end_limit end found (ap (λ (rows : List FileRow). next_line rows end) (sym none) ∙ next) in
      record {
        refuses = ap (header_refusal end) none ∙ ap (λ (b : Bool). if b then Some Bytes else Some (Row 0 Header)) (not_past end low);
        near = subst (λ (rows : List FileRow). IfSome (slice_get rows 0) (λ row. place ≤ row.ends + 65536)) (sym none) tt;
      }

  pub long_header : (file_left : List FileRow) (end place : ℕ) → next_line file_left end ≡ Err line.TooLong → IsNearFirst file_left place → LacksHeader {O = O} end file_left place (Row 0 NotCsv)
  long_header file_left end place next near = let row = long_row file_left end next in lacks file_left row.1 row.0 end place NotCsv row.2 row.3 (ap header_in (none_long row.0.line row.4)) near

  past_rows : (end : ℕ) (file_left : List FileRow) → IsHere {O = O} 0 file_left Bytes → (file_left ≡ [] → 1073741824 < end) → header_refusal {O = O} end file_left ≡ Some Bytes
  unfolding header_refusal
  past_rows end [] here high = ap (λ (b : Bool). if b then Some Bytes else Some (Row 0 Header)) (past end (high refl))
  past_rows end (row ∷ later) here high = ap (λ (b : Bool). if b then Some Bytes else row_zero (header_fault row.line)) here

  pub past_header : (file_left : List FileRow) (end place : ℕ) → next_line file_left end ≡ Err line.Bytes → IsNearFirst file_left place → LacksHeader {O = O} end file_left place Bytes
  past_header file_left end place next near =
      let first = past_first O 0 file_left end next in
      record { refuses = past_rows end file_left first.0 first.1; near = near_past O 0 file_left place first.0 near }

  pub unlinked : (n : ℕ) (h : Or (Halt O)) → ¬ IsLink h → HaltCountedBy n n h
  unlinked n (either.Fault (halt.Refused refusal)) none = refl
  unlinked n (either.Fault halt.Read) none = refl
  unlinked n (either.Fault halt.Link) none = absurd (none tt)
  unlinked n either.Memory none = refl

-- Behind the header.

module _ {E O : Type 0} (rules : Rules E O) (end : ℕ) (file_left : List FileRow) where
  judged_later : (later : List FileRow) (has : HasHeader file_left later) → judged_by rules end file_left ≡ judged_behind rules [] 1 end later
  judged_later later has =
      ap (judged_by rules end) has.left_is
      ∙ ap (λ (r : Option (ScheduleRefusal O)). unless_refused r (judged_behind rules [] 1 end later)) (first_refusal end has.header later has.in_limit ∙ ap (row_zero {O = O}) has.reads)

  refuses_one : (later : List FileRow) (has : HasHeader file_left later) (place : ℕ) (refusal : ScheduleRefusal O) → RefusesSome rules end later place refusal → RefusesRows rules end file_left place refusal
  refuses_one later has place refusal some = record {
    verdict = judged_later later has ∙ some.verdict;
    near = subst (λ (l : List FileRow). IsNearIn l place refusal) (sym has.left_is) (some.near has.header has.in_limit);
  }

  -- a header that is lacked
  pub lacked : (told : Bool) (place : ℕ) (h : Or (Halt O)) → (IsTrue told → UnlessFailed (LacksHeader end file_left place) h) → UnlessFailed (λ refusal. IsTrue told → RefusesRows rules end file_left place refusal) h
  lacked told place (either.Fault (halt.Refused refusal)) lacks = λ is. record {
    verdict = ap (λ (r : Option (ScheduleRefusal O)). unless_refused r (judged_behind rules [] 1 end (drop 1 file_left))) (lacks is).refuses;
    near = (lacks is).near;
  }
  lacked told place (either.Fault halt.Read) lacks = tt
  lacked told place (either.Fault halt.Link) lacks = tt
  lacked told place either.Memory lacks = tt

  -- the rows behind it were judged up to the end of a later call, which is the same
  module _ (later : List FileRow) (end' : ℕ) (told told' : Bool) (has : IsTrue told → HasHeader file_left later) (ends : IsTrue told → end' ≡ end) (tells : told' ≡ told) where
    refused_behind : (place : ℕ) (h : Or (Halt O)) → UnlessFailed (λ refusal. IsTrue told' → RefusesSome rules end' later place refusal) h → UnlessFailed (λ refusal. IsTrue told → RefusesRows rules end file_left place refusal) h
    refused_behind place (either.Fault (halt.Refused refusal)) some = λ is.
        refuses_one later (has is) place refusal (subst (λ (n : ℕ). RefusesSome rules n later place refusal) (ends is) (some (tells ∙ is)))
    refused_behind place (either.Fault halt.Read) some = tt
    refused_behind place (either.Fault halt.Link) some = tt
    refused_behind place either.Memory some = tt

    pub judged_all : {T : Type 0} (stands : List E → Type 0) (place : ℕ) (r : Result T (Or (Halt O)))
        → MatchResult r (λ _. TakesAll rules stands end' told' later) (UnlessFailed (λ refusal. IsTrue told' → RefusesSome rules end' later place refusal))
        → MatchResult r (λ _. TakesRows rules stands end told file_left) (UnlessFailed (λ refusal. IsTrue told → RefusesRows rules end file_left place refusal))
    judged_all stands place (Ok x) takes = record {
      events = takes.events;
      stands_for = takes.stands_for;
      stops = takes.stops;
      verdict = λ is. judged_later later (has is) ∙ subst (λ (n : ℕ). judged_behind rules [] 1 n later ≡ Ok takes.events) (ends is) (takes.verdict (tells ∙ is));
    }
    judged_all stands place (Err h) some = refused_behind place h some

-- The file that was opened.

-- these lines begin at the start of the file
record IsFirst (lines : LinesState) (file : Option (List ℕ)) (opened : FilesState) : Type 0 where
  first : lines ≡ fresh_lines
  start_is : opened.place ≡ 0
  file_is : file ≡ Some opened.bytes

module _ {E O : Type 0} (rules : Rules E O) (lines : LinesState) (file : Option (List ℕ)) (opened : FilesState) where
  same : IsFirst lines file opened → judged_by rules (end_ahead lines opened) (rows_ahead lines opened) ≡ file_judged_by rules opened.bytes
  same is = λ i. judged_by rules (end_is i) (rows_are i)
    where
      rest : file_left opened ≡ opened.bytes
      rest = ap (λ (n : ℕ). drop n opened.bytes) is.start_is

      rows_are : rows_ahead lines opened ≡ rows_of opened.bytes
      rows_are = ap (λ (l : LinesState). rows_ahead l opened) is.first ∙ ap (λ (b : List ℕ). rows_from 0 (lines_of b)) rest

      end_is : end_ahead lines opened ≡ length opened.bytes
      end_is = ap (λ (l : LinesState). end_ahead l opened) is.first ∙ ap (λ (b : List ℕ). 0 + length b) rest ∙ (let e : 0 + length opened.bytes ≡ length opened.bytes = omega arith in e)

  rows_of_file : IsFirst lines file opened → rows_ahead lines opened ≡ rows_of opened.bytes
  rows_of_file is = ap (λ (l : LinesState). rows_ahead l opened) is.first ∙ ap (λ (b : List ℕ). rows_from 0 (lines_of b)) (ap (λ (n : ℕ). drop n opened.bytes) is.start_is)

  refused_file : (place : ℕ) (refusal : ScheduleRefusal O) → IsFirst lines file opened → RefusesRows rules (end_ahead lines opened) (rows_ahead lines opened) place refusal → RefusesFile rules file place refusal
  refused_file place refusal is refuses = record {
    bytes = opened.bytes;
    file_is = is.file_is;
    reads = sym (same is) ∙ refuses.verdict;
    near = subst (λ (l : List FileRow). IsNearIn l place refusal) (rows_of_file is) refuses.near;
  }

  module _ (told told' : Bool) (tells : told' ≡ told) (first : lines ≡ fresh_lines) (opens : IsTrue told → (file ≡ Some opened.bytes) × (opened.place ≡ 0)) where
    is_first : IsTrue told → IsFirst lines file opened
    is_first is = record { first = first; start_is = (opens is).1; file_is = (opens is).0 }

    unless_file : (place : ℕ) (h : Or (Halt O)) → UnlessFailed (λ refusal. IsTrue told' → RefusesRows rules (end_ahead lines opened) (rows_ahead lines opened) place refusal) h
        → UnlessFailed (λ refusal. IsTrue told → RefusesFile rules file place refusal) h
    unless_file place (either.Fault (halt.Refused refusal)) refuses = λ is. refused_file place refusal (is_first is) (refuses (tells ∙ is))
    unless_file place (either.Fault halt.Read) refuses = tt
    unless_file place (either.Fault halt.Link) refuses = tt
    unless_file place either.Memory refuses = tt

    pub judged_file : {T : Type 0} (stands : ℕ → List E → Type 0) (place : ℕ) (r : Result T (Or (Halt O)))
        → MatchResult r (λ _. (steps : ℕ) × TakesRows rules (stands steps) (end_ahead lines opened) told' (rows_ahead lines opened))
        (UnlessFailed (λ refusal. IsTrue told' → RefusesRows rules (end_ahead lines opened) (rows_ahead lines opened) place refusal))
        → MatchResult r (λ _. (steps : ℕ) × TakesFile rules (stands steps) told file) (UnlessFailed (λ refusal. IsTrue told → RefusesFile rules file place refusal))
    judged_file stands place (Ok x) takes = (
      takes.0,
      record {
        events = takes.1.events;
        stands_for = takes.1.stands_for;
        stops = takes.1.stops;
        reads = λ is. record { bytes = opened.bytes; file_is = (opens is).0; reads = sym (same (is_first is)) ∙ takes.1.verdict (tells ∙ is) };
      },
    )
    judged_file stands place (Err h) refuses = unless_file place h refuses

-- after some number of steps
pub with_steps : {T H : Type 0} (P : ℕ → Type 0) (Q : H → Type 0) (n : ℕ) (r : Result T H) → MatchResult r (λ _. P n) Q → MatchResult r (λ _. (steps : ℕ) × P steps) Q
with_steps P Q n (Ok x) is = (n, is)
with_steps P Q n (Err h) is = is
