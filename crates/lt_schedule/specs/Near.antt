-- How far a refused schedule file was read.
use Rattle.std.specs.Prelude.{◌≤◌, ℕ, ◌+◌, nat_lt, Bool, List, Option, IfSome, find, slice_get}
use Rattle.lt_base.specs.declared.memory.Or.{Or}
use Rattle.lt_base.specs.declared.memory.Or.TheVariants.{Fault, Memory}
use Rattle.lt_arch.specs.declared.event.Offence as arch
use Rattle.lt_rows.specs.Limits.{most_bytes, piece_size}
use Rattle.lt_rows.specs.Rows.{FileRow, rows_of}
use Rattle.lt_schedule.specs.declared.halt.ScheduleRefusal.{ScheduleRefusal}
use Rattle.lt_schedule.specs.declared.halt.ScheduleRefusal.TheVariants as refusal
use Rattle.lt_schedule.specs.declared.fault.ScheduleFault.{ScheduleFault}
use Rattle.lt_schedule.specs.declared.fault.ScheduleFault.TheVariants.{Row, Offence, Bytes, Read}

-- the row holds the first byte past the limit
abbrev pub is_past : FileRow → Bool
is_past row = nat_lt most_bytes row.ends

-- the row that is refused, if the file has a line for it
abbrev pub refused_row : {O : Type 0} → List FileRow → ScheduleRefusal O → Option FileRow
refused_row rows (refusal.Row row fault) = slice_get rows row
refused_row rows (refusal.Offence event offence) = slice_get rows event
refused_row rows refusal.Bytes = find is_past rows

-- the file was read to at most a piece past that row
abbrev pub IsNearIn : {O : Type 0} → List FileRow → (place : ℕ) → ScheduleRefusal O → Type 0
IsNearIn rows place refused = IfSome (refused_row rows refused) (λ row. place ≤ row.ends + piece_size)

-- the same of a fault, where no call failed
abbrev pub IsNearScheduleFault : List FileRow → (place : ℕ) → ScheduleFault → Type 0
IsNearScheduleFault rows place (Row row fault) = IsNearIn {O = arch.Offence} rows place (refusal.Row row fault)
IsNearScheduleFault rows place (Offence event offence) = IsNearIn {O = arch.Offence} rows place (refusal.Offence event offence)
IsNearScheduleFault rows place Bytes = IsNearIn {O = arch.Offence} rows place refusal.Bytes
IsNearScheduleFault rows place Read = Unit {0}

abbrev pub IsNear : List ℕ → (place : ℕ) → Or ScheduleFault → Type 0
IsNear bytes place (Fault fault) = IsNearScheduleFault (rows_of bytes) place fault
IsNear bytes place Memory = Unit {0}

-- the same of a file, if it is there
abbrev pub IsNearFile : Option (List ℕ) → (place : ℕ) → Or ScheduleFault → Type 0
IsNearFile file place fault = IfSome file (λ bytes. IsNear bytes place fault)
