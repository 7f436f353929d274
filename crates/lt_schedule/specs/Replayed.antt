-- The rows of a schedule taken one by one.
use Rattle.std.specs.Prelude.{◌≡◌, ◌≤◌, ℕ, ◌+◌, Bool, true, false, IsTrue, List, [], ◌∷◌, ◌++◌, Option, Some, None, Result, Ok, Err, MatchResult}
use Rattle.lt_io.specs.FilesState.{FilesState}
use Rattle.lt_rows.specs.Limits.{most_bytes}
use Rattle.lt_rows.specs.Rows.{FileRow, rows_of}
use Rattle.lt_rows.specs.Lines.{LinesState, IsNearFirst, rows_ahead, end_ahead}
use Rattle.lt_rows.specs.Events.{header_fault}
use Rattle.lt_base.specs.declared.memory.Or.{Or}
use Rattle.lt_schedule.specs.declared.halt.Halt.{Halt}
use Rattle.lt_schedule.specs.declared.halt.ScheduleRefusal.{ScheduleRefusal}
use Rattle.lt_schedule.specs.declared.halt.ScheduleRefusal.TheVariants.{Row, Offence, Bytes}
use Rattle.lt_schedule.specs.Halted.{UnlessFailed}
use Rattle.lt_schedule.specs.Rules.{Rules, row_event, judged_behind, header_refusal, judged_by, file_judged_by}
use Rattle.lt_schedule.specs.Near.{is_past, IsNearIn}

-- the line of the row of this number was taken as an event behind these
pub record TakesEvent {E O : Type 0} (rules : Rules E O) (number : ℕ) (line : List ℕ) (stands : List E → Type 0) (before : List E) : Type 0 where
  pub event : E
  pub reads : row_event rules number line ≡ Ok event
  pub free : rules.offence before event ≡ None
  pub stands_on : stands (before ++ event ∷ [])

-- a line is refused: it is no event, or its event has an offence
abbrev pub RefusesLine : {E O : Type 0} → Rules E O → (number : ℕ) → (line : List ℕ) → (before : List E) → ScheduleRefusal O → Type 0
RefusesLine rules number line before (Row row fault) = (row ≡ number) × (row_event rules number line ≡ Err fault)
RefusesLine rules number line before (Offence event offence) = (event ≡ number) × ((e : _) × (row_event rules number line ≡ Ok e) × (rules.offence before e ≡ Some offence))
RefusesLine rules number line before Bytes = ⊥

-- the first row that is left is that of this event, and the verdict on it and the others is that on the others behind it
pub record IsRow {E O : Type 0} (rules : Rules E O) (before : List E) (number end : ℕ) (left later : List FileRow) (event : E) : Type 0 where
  pub row : FileRow
  pub left_is : left ≡ row ∷ later
  pub in_limit : row.ends ≤ most_bytes
  pub verdict : judged_behind rules before number end left ≡ judged_behind rules (before ++ event ∷ []) (number + 1) end later

-- a row was taken as an event, where the files tell their bytes the first that is left
pub record TakesRow {E O : Type 0} (rules : Rules E O) (stands : List E → Type 0) (before : List E) (number end : ℕ) (told : Bool) (left later : List FileRow) : Type 0 where
  pub event : E
  pub stands_on : stands (before ++ event ∷ [])
  pub row : IsTrue told → IsRow rules before number end left later event

-- no row is left
pub record IsOver {E : Type 0} (stands : List E → Type 0) (before : List E) (end : ℕ) (told : Bool) (left : List FileRow) : Type 0 where
  pub stands_still : stands before
  pub none : IsTrue told → left ≡ []
  pub in_limit : IsTrue told → end ≤ most_bytes

-- one row more, or all rows were taken
abbrev pub ScheduleGoesOn : {E O : Type 0} → Rules E O → (stands : List E → Type 0) → (before : List E) → (number end : ℕ) → (told : Bool) → (left later : List FileRow) → Bool → Type 0
ScheduleGoesOn rules stands before number end told left later true = TakesRow rules stands before number end told left later
ScheduleGoesOn rules stands before number end told left later false = IsOver stands before end told left

-- a refusal is that of the first of these rows, which has this number
abbrev pub IsHere : {O : Type 0} → (number : ℕ) → (left : List FileRow) → ScheduleRefusal O → Type 0
IsHere number left (Row row fault) = row ≡ number
IsHere number left (Offence event offence) = event ≡ number
IsHere number [] Bytes = Unit {0}
IsHere number (row ∷ later) Bytes = is_past row ≡ true

-- the row of this number is refused behind these events
pub record RefusesRow {E O : Type 0} (rules : Rules E O) (before : List E) (number end : ℕ) (left : List FileRow) (place : ℕ) (refusal : ScheduleRefusal O) : Type 0 where
  pub verdict : judged_behind rules before number end left ≡ Err refusal
  pub here : IsHere number left refusal
  pub near : IsNearFirst left place

-- all rows behind a header were taken, and their list may stop
pub record TakesAll {E O : Type 0} (rules : Rules E O) (stands : List E → Type 0) (end : ℕ) (told : Bool) (left : List FileRow) : Type 0 where
  pub events : List E
  pub stands_for : stands events
  pub stops : rules.missing events ≡ None
  pub verdict : IsTrue told → judged_behind rules [] 1 end left ≡ Ok events

-- one of them is refused
pub record RefusesSome {E O : Type 0} (rules : Rules E O) (end : ℕ) (left : List FileRow) (place : ℕ) (refusal : ScheduleRefusal O) : Type 0 where
  pub verdict : judged_behind rules [] 1 end left ≡ Err refusal
  pub near : (header : FileRow) → header.ends ≤ most_bytes → IsNearIn (header ∷ left) place refusal

-- the first row is a header
pub record HasHeader (left later : List FileRow) : Type 0 where
  pub header : FileRow
  pub left_is : left ≡ header ∷ later
  pub in_limit : header.ends ≤ most_bytes
  pub reads : header_fault header.line ≡ None

-- the first row is none
pub record LacksHeader {O : Type 0} (end : ℕ) (left : List FileRow) (place : ℕ) (refusal : ScheduleRefusal O) : Type 0 where
  pub refuses : header_refusal end left ≡ Some refusal
  pub near : IsNearIn left place refusal

-- all rows were taken, from the header on, and their list may stop
pub record TakesRows {E O : Type 0} (rules : Rules E O) (stands : List E → Type 0) (end : ℕ) (told : Bool) (left : List FileRow) : Type 0 where
  pub events : List E
  pub stands_for : stands events
  pub stops : rules.missing events ≡ None
  pub verdict : IsTrue told → judged_by rules end left ≡ Ok events

-- one of them is refused
pub record RefusesRows {E O : Type 0} (rules : Rules E O) (end : ℕ) (left : List FileRow) (place : ℕ) (refusal : ScheduleRefusal O) : Type 0 where
  pub verdict : judged_by rules end left ≡ Err refusal
  pub near : IsNearIn left place refusal

-- these are the events of the file
pub record IsFileOf {E O : Type 0} (rules : Rules E O) (file : Option (List ℕ)) (events : List E) : Type 0 where
  pub bytes : List ℕ
  pub file_is : file ≡ Some bytes
  pub reads : file_judged_by rules bytes ≡ Ok events

-- all rows of a file were taken, and their list may stop: what is kept stands for their events
pub record TakesFile {E O : Type 0} (rules : Rules E O) (stands : List E → Type 0) (told : Bool) (file : Option (List ℕ)) : Type 0 where
  pub events : List E
  pub stands_for : stands events
  pub stops : rules.missing events ≡ None
  pub reads : IsTrue told → IsFileOf rules file events

-- a file is refused, and was read to at most a piece past the row that is
pub record RefusesFile {E O : Type 0} (rules : Rules E O) (file : Option (List ℕ)) (place : ℕ) (refusal : ScheduleRefusal O) : Type 0 where
  pub bytes : List ℕ
  pub file_is : file ≡ Some bytes
  pub reads : file_judged_by rules bytes ≡ Err refusal
  pub near : IsNearIn (rows_of bytes) place refusal

-- the verdict on the rows that are still to come: they are taken, or where the files tell their bytes one of them is refused
abbrev pub JudgesRows : {E O : Type 0} → Rules E O → (stands : List E → Type 0) → LinesState → (old new : FilesState) → Result (Unit {0}) (Or (Halt O)) → Type 0
JudgesRows rules stands lines old new result = MatchResult result
    (λ _. TakesRows rules stands (end_ahead lines old) old.told (rows_ahead lines old))
    (UnlessFailed (λ refusal. IsTrue old.told → RefusesRows rules (end_ahead lines old) (rows_ahead lines old) new.place refusal))

-- the same by the steps that are taken from the first row on
abbrev pub JudgesOpen : {E O : Type 0} → Rules E O → (stands : (steps : ℕ) → List E → Type 0) → LinesState → (old new : FilesState) → Result (Unit {0}) (Or (Halt O)) → Type 0
JudgesOpen rules stands lines old new result = MatchResult result
    (λ _. (steps : ℕ) × TakesRows rules (stands steps) (end_ahead lines old) old.told (rows_ahead lines old))
    (UnlessFailed (λ refusal. IsTrue old.told → RefusesRows rules (end_ahead lines old) (rows_ahead lines old) new.place refusal))

-- the same of the rows behind a header
abbrev pub JudgesAll : {E O : Type 0} → Rules E O → (stands : List E → Type 0) → LinesState → (old new : FilesState) → Result (Unit {0}) (Or (Halt O)) → Type 0
JudgesAll rules stands lines old new result = MatchResult result
    (λ _. TakesAll rules stands (end_ahead lines old) old.told (rows_ahead lines old))
    (UnlessFailed (λ refusal. IsTrue old.told → RefusesSome rules (end_ahead lines old) (rows_ahead lines old) new.place refusal))

-- the same of the row of this number, which comes behind these events; whether there is one
abbrev pub JudgesNext : {E O : Type 0} → Rules E O → (stands : List E → Type 0) → (before : List E) → (number : ℕ) → (lines later : LinesState) → (old new : FilesState) → Result Bool (Or (Halt O)) → Type 0
JudgesNext rules stands before number lines later old new result = MatchResult result
    (ScheduleGoesOn rules stands before number (end_ahead lines old) old.told (rows_ahead lines old) (rows_ahead later new))
    (UnlessFailed (λ refusal. IsTrue old.told → RefusesRow rules before number (end_ahead lines old) (rows_ahead lines old) new.place refusal))

-- the verdict on a file, by the steps that were taken: it is taken, or where the files tell their bytes it is refused
abbrev pub JudgesFile : {E O : Type 0} → Rules E O → (stands : (steps : ℕ) → List E → Type 0) → (file : Option (List ℕ)) → (old new : FilesState) → Result (Unit {0}) (Or (Halt O)) → Type 0
JudgesFile rules stands file old new result = MatchResult result
    (λ _. (steps : ℕ) × TakesFile rules (stands steps) old.told file)
    (UnlessFailed (λ refusal. IsTrue old.told → RefusesFile rules file new.place refusal))
