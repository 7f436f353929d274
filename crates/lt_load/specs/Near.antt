-- How far a schedule file was read that a command refuses.
use Rattle.std.specs.Prelude.{ℕ, IsTrue, List, Option, Result, Ok, Err, IfErr, IfSome}
use Rattle.lt_base.specs.declared.memory.Or.{Or}
use Rattle.lt_base.specs.declared.memory.Or.TheVariants.{Fault, Memory}
use Rattle.lt_io.specs.FilesState.{FilesState}
use Rattle.lt_answer.specs.Answered.{Verdict}
use Rattle.lt_schedule.specs.declared.fault.ScheduleFault.TheVariants as schedule
use Rattle.lt_rows.specs.Rows.{rows_of}
use Rattle.lt_lossy.specs.declared.event.LossyOffence.{LossyOffence}
use Rattle.lt_schedule.specs.declared.halt.ScheduleRefusal.TheVariants as refusal
use Rattle.lt_schedule.specs.Near.{IsNearFile, IsNearIn}
use Rattle.lt_load_fit.specs.declared.fault.What.{What}
use Rattle.lt_load_fit.specs.declared.fault.What.TheVariants.{ProgramBytes, ConfigBytes, InputsBytes, ObserverBytes, ScheduleBytes}
use Rattle.lt_load_fit.specs.declared.fault.CommandFault.{CommandFault}
use Rattle.lt_load_fit.specs.declared.fault.CommandFault.TheVariants as fault

-- where the schedule's bytes are too many
abbrev pub IsNearLimit : Option (List ℕ) → (place : ℕ) → What → Type 0
IsNearLimit file place ProgramBytes = Unit {0}
IsNearLimit file place ConfigBytes = Unit {0}
IsNearLimit file place InputsBytes = Unit {0}
IsNearLimit file place ObserverBytes = Unit {0}
IsNearLimit file place ScheduleBytes = IsNearFile file place (Fault schedule.Bytes)

-- a schedule file that is refused was read to at most a piece past the row that is refused
abbrev pub IsNearCommandFault : Option (List ℕ) → (place : ℕ) → CommandFault → Type 0
IsNearCommandFault file place (fault.Program f) = Unit {0}
IsNearCommandFault file place (fault.Config f) = Unit {0}
IsNearCommandFault file place (fault.Place f main) = Unit {0}
IsNearCommandFault file place (fault.Timing f names mixed) = Unit {0}
IsNearCommandFault file place (fault.Window f names) = Unit {0}
IsNearCommandFault file place (fault.Inputs f) = Unit {0}
IsNearCommandFault file place fault.TooManyCells = Unit {0}
IsNearCommandFault file place (fault.Row row f) = IsNearFile file place (Fault (schedule.Row row f))
IsNearCommandFault file place (fault.Offence event offence s) = IsNearFile file place (Fault (schedule.Offence event offence))
IsNearCommandFault file place (fault.Lossy event offence s) = IfSome file (λ bytes. IsNearIn {O = LossyOffence} (rows_of bytes) place (refusal.Offence event offence))
IsNearCommandFault file place (fault.Limit what) = IsNearLimit file place what
IsNearCommandFault file place fault.Read = Unit {0}
IsNearCommandFault file place fault.Link = Unit {0}

abbrev pub IsNearCommand : Option (List ℕ) → (place : ℕ) → Or CommandFault → Type 0
IsNearCommand file place (Fault f) = IsNearCommandFault file place f
IsNearCommand file place Memory = Unit {0}

-- so it is of the file of this name, where the files tell their bytes
abbrev pub IsReadNear : {T : Type 0} → (schedule : List ℕ) (old new : FilesState) → Result T (Or CommandFault) → Type 0
IsReadNear schedule old new result = IsTrue old.told → IfErr result (IsNearCommand (old.named schedule) new.place)

-- the same of a verdict's refusals
abbrev pub ReadNear : {T : Type 0} → Option (List ℕ) → (place : ℕ) → Verdict T CommandFault → Verdict T CommandFault
ReadNear file place V (Ok x) = V (Ok x)
ReadNear file place V (Err e) = V (Err e) × IsNearCommandFault file place e
