-- What the rows of a schedule file read as by the rules of a protocol: its events, or the first row or event that is refused.
use Rattle.std.specs.Prelude.{ℕ, ◌+◌, nat_lt, List, [], ◌∷◌, ◌++◌, drop, length, Option, Some, None, Result, Ok, Err, if◌then◌else◌}
use Rattle.lt_rows.specs.declared.fault.RowFault.{RowFault}
use Rattle.lt_rows.specs.declared.fault.RowFault.TheVariants.{Header, TooMany}
use Rattle.lt_rows.specs.Limits.{most_bytes, most_events}
use Rattle.lt_rows.specs.Rows.{FileRow, rows_of}
use Rattle.lt_rows.specs.Events.{header_fault}
use Rattle.lt_schedule.specs.declared.halt.ScheduleRefusal.{ScheduleRefusal}
use Rattle.lt_schedule.specs.declared.halt.ScheduleRefusal.TheVariants.{Row, Offence, Bytes}

-- how lines and events are judged, with events E and offences O
pub record Rules (E O : Type 0) : Type 0 where
  -- what a line reads as
  pub reads : List ℕ → Result E RowFault
  -- the offence of an event behind these others
  pub offence : List E → E → Option O
  -- the offence of a list that stops behind these
  pub missing : List E → Option O

-- all events, or the offence of a list that stops
abbrev pub unless_missing : {E O : Type 0} → (number : ℕ) → Option O → List E → Result (List E) (ScheduleRefusal O)
unless_missing number None before = Ok before
unless_missing number (Some offence) before = Err (Offence number offence)

-- an event's offence, or what follows where it has none
abbrev pub unless_offence : {E O : Type 0} → (number : ℕ) → Option O → Result (List E) (ScheduleRefusal O) → Result (List E) (ScheduleRefusal O)
unless_offence number None later = later
unless_offence number (Some offence) later = Err (Offence number offence)

-- a row's fault, or what follows where it is an event
abbrev pub unless_fault : {E O : Type 0} → (number : ℕ) → Result E RowFault → (E → Result (List E) (ScheduleRefusal O)) → Result (List E) (ScheduleRefusal O)
unless_fault number (Err fault) next = Err (Row number fault)
unless_fault number (Ok e) next = next e

-- the event of the row of this number: too many rows come before a row's own faults
abbrev pub row_event : {E O : Type 0} → Rules E O → (number : ℕ) → (line : List ℕ) → Result E RowFault
row_event rules number line = if nat_lt most_events number then Err TooMany else rules.reads line

-- the events of a schedule, of which these stand before the rows that are left and the first row left has this number,
-- or the first refusal: at one row the limit on bytes comes first, then the row's fault, then the event's offence
unfoldable pub judged_behind : {E O : Type 0} → Rules E O → (before : List E) → (number end : ℕ) → List FileRow → Result (List E) (ScheduleRefusal O)
judged_behind rules before number end [] = if nat_lt most_bytes end then Err Bytes else unless_missing number (rules.missing before) before
judged_behind rules before number end (row ∷ later) =
    if nat_lt most_bytes row.ends then Err Bytes else
    unless_fault number (row_event rules number row.line) (λ e. unless_offence number (rules.offence before e) (judged_behind rules (before ++ e ∷ []) (number + 1) end later))

-- a fault of the header, which is row 0
abbrev pub row_zero : {O : Type 0} → Option RowFault → Option (ScheduleRefusal O)
row_zero None = None
row_zero (Some fault) = Some (Row 0 fault)

-- why the first row is no header within the limit, if it is none
unfoldable pub header_refusal : {O : Type 0} → (end : ℕ) → List FileRow → Option (ScheduleRefusal O)
header_refusal end [] = if nat_lt most_bytes end then Some Bytes else Some (Row 0 Header)
header_refusal end (row ∷ later) = if nat_lt most_bytes row.ends then Some Bytes else row_zero (header_fault row.line)

-- a refusal, or what follows
abbrev pub unless_refused : {E O : Type 0} → Option (ScheduleRefusal O) → Result (List E) (ScheduleRefusal O) → Result (List E) (ScheduleRefusal O)
unless_refused None later = later
unless_refused (Some refusal) later = Err refusal

-- the events of rows of which the first is the header
abbrev pub judged_by : {E O : Type 0} → Rules E O → (end : ℕ) → List FileRow → Result (List E) (ScheduleRefusal O)
judged_by rules end rows = unless_refused (header_refusal end rows) (judged_behind rules [] 1 end (drop 1 rows))

-- those of a file
abbrev pub file_judged_by : {E O : Type 0} → Rules E O → (bytes : List ℕ) → Result (List E) (ScheduleRefusal O)
file_judged_by rules bytes = judged_by rules (length bytes) (rows_of bytes)
