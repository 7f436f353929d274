-- Why the rows of a schedule are not all taken, and whose fault it is.
use Rattle.std.specs.Prelude.{◌≡◌, ◌<◌, ℕ, nat_lt, Option, Some, None, Result, Ok, Err, MatchResult, if◌then◌else◌}
use Rattle.lt_base.specs.declared.memory.Or.{Or}
use Rattle.lt_base.specs.declared.memory.Or.TheVariants.{Fault, Memory}
use Rattle.lt_rows.specs.declared.fault.RowFault.{RowFault}
use Rattle.lt_rows.specs.declared.fault.RowFault.TheVariants.{NotCsv, TooMany}
use Rattle.lt_rows.specs.Limits.{most_events}
use Rattle.lt_schedule.specs.declared.halt.ScheduleRefusal.{ScheduleRefusal}
use Rattle.lt_schedule.specs.declared.halt.ScheduleRefusal.TheVariants.{Row, Offence}
use Rattle.lt_schedule.specs.declared.halt.Halt.{Halt}
use Rattle.lt_schedule.specs.declared.halt.Halt.TheVariants.{Refused, Read, Link}
use Rattle.lt_schedule.specs.declared.halt.Stop.{Stop}
use Rattle.lt_schedule.specs.declared.halt.Stop.TheVariants as stop

-- a fact of a refusal; a failed call and want of memory say nothing of the rows
abbrev pub UnlessFailed : {O : Type 0} → (ScheduleRefusal O → Type 0) → Or (Halt O) → Type 0
UnlessFailed P (Fault (Refused refusal)) = P refusal
UnlessFailed P (Fault Read) = Unit {0}
UnlessFailed P (Fault Link) = Unit {0}
UnlessFailed P Memory = Unit {0}

abbrev pub ReadCountedBy : {O : Type 0} → ℕ → ℕ → Or (Halt O) → Type 0
ReadCountedBy before now (Fault (Refused refusal)) = now ≡ before
ReadCountedBy before now (Fault Read) = before < now
ReadCountedBy before now (Fault Link) = now ≡ before
ReadCountedBy before now Memory = now ≡ before

-- the files' count rose where a call on them failed, and else stayed
abbrev pub ReadCounted : {T O : Type 0} → ℕ → ℕ → Result T (Or (Halt O)) → Type 0
ReadCounted before now result = MatchResult result (λ _. now ≡ before) (ReadCountedBy before now)

abbrev pub HaltCountedBy : {O : Type 0} → ℕ → ℕ → Or (Halt O) → Type 0
HaltCountedBy before now (Fault (Refused refusal)) = now ≡ before
HaltCountedBy before now (Fault Read) = now ≡ before
HaltCountedBy before now (Fault Link) = before < now
HaltCountedBy before now Memory = now ≡ before

-- the outside's count rose where a call on it failed, and else stayed
abbrev pub HaltCounted : {T O : Type 0} → ℕ → ℕ → Result T (Or (Halt O)) → Type 0
HaltCounted before now result = MatchResult result (λ _. now ≡ before) (HaltCountedBy before now)

abbrev pub IsHaltMemory : {O : Type 0} → Or (Halt O) → Type 0
IsHaltMemory (Fault (Refused refusal)) = ⊥
IsHaltMemory (Fault Read) = ⊥
IsHaltMemory (Fault Link) = ⊥
IsHaltMemory Memory = Unit {0}

-- no memory was found
abbrev pub IsMemoryHalt : {T O : Type 0} → Result T (Or (Halt O)) → Type 0
IsMemoryHalt (Ok x) = ⊥
IsMemoryHalt (Err halt) = IsHaltMemory halt

abbrev pub IsLink : {O : Type 0} → Or (Halt O) → Type 0
IsLink (Fault (Refused refusal)) = ⊥
IsLink (Fault Read) = ⊥
IsLink (Fault Link) = Unit {0}
IsLink Memory = ⊥

abbrev pub IsRead : {O : Type 0} → Or (Halt O) → Type 0
IsRead (Fault (Refused refusal)) = ⊥
IsRead (Fault Read) = Unit {0}
IsRead (Fault Link) = ⊥
IsRead Memory = ⊥

-- why the line of the row of this number is not taken
abbrev pub halted_by : {O : Type 0} → (number : ℕ) → Stop O → Or (Halt O)
halted_by number (stop.Row fault) = Fault (Refused (Row number fault))
halted_by number (stop.Offence offence) = Fault (Refused (Offence number offence))
halted_by number stop.Link = Fault Link
halted_by number stop.Memory = Memory

-- the fault of the row of this number, where its line is too long: too many rows come first
abbrev pub long_fault : (number : ℕ) → RowFault
long_fault number = if nat_lt most_events number then TooMany else NotCsv

-- whether a list may stop
abbrev pub finished : {O : Type 0} → (number : ℕ) → Option O → Result (Unit {0}) (Or (Halt O))
finished number None = Ok tt
finished number (Some offence) = Err (Fault (Refused (Offence number offence)))
