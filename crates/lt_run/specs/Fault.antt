-- Whose fault it is that a run does not come to its end.
use Rattle.std.specs.Prelude.{ℕ, List, Option, IfSome}
use Rattle.lt_base.specs.declared.memory.Or.{Or}
use Rattle.lt_base.specs.declared.memory.Or.TheVariants.{Fault, Memory}
use Rattle.lt_answer.specs.World.{Blame, Content, Reading, Linking}
use Rattle.lt_schedule.specs.declared.fault.ScheduleFault.{ScheduleFault}
use Rattle.lt_schedule.specs.declared.fault.ScheduleFault.TheVariants as schedule
use Rattle.lt_rows.specs.Rows.{rows_of}
use Rattle.lt_lossy.specs.declared.event.LossyOffence.{LossyOffence}
use Rattle.lt_schedule.specs.declared.halt.ScheduleRefusal.{ScheduleRefusal}
use Rattle.lt_schedule.specs.declared.halt.ScheduleRefusal.TheVariants as refusal
use Rattle.lt_schedule.specs.Near.{IsNearFile, IsNearIn}
use Rattle.lt_schedule.specs.declared.halt.Halt.{Halt}
use Rattle.lt_schedule.specs.declared.halt.Halt.TheVariants as play
use Rattle.lt_schedule.specs.Verdict.{schedule_fault_of}
use Rattle.lt_run.specs.declared.fault.RunFault.{RunFault}
use Rattle.lt_run.specs.declared.fault.RunFault.TheVariants.{Row, Offence, Lossy, Bytes, Read, Link}
use Rattle.lt_arch.specs.declared.event.Offence as arch

-- that of the schedule, of a call on the files, or of a call on the fabric
abbrev pub run_blame : RunFault → Blame
run_blame (Row row fault) = Content
run_blame (Offence event offence) = Content
run_blame (Lossy event offence) = Content
run_blame Bytes = Content
run_blame Read = Reading
run_blame Link = Linking

-- the refusal of a schedule
abbrev pub of_schedule : ScheduleFault → RunFault
of_schedule (schedule.Row row fault) = Row row fault
of_schedule (schedule.Offence event offence) = Offence event offence
of_schedule schedule.Bytes = Bytes
of_schedule schedule.Read = Read

abbrev pub of_plain : ScheduleRefusal arch.Offence → RunFault
of_plain refused = of_schedule (schedule_fault_of refused)

-- the fault of a network's play
abbrev pub of_play : Halt arch.Offence → RunFault
of_play (play.Refused refused) = of_plain refused
of_play play.Read = Read
of_play play.Link = Link

-- the refusal of a schedule where links lose messages
abbrev pub of_refusal : ScheduleRefusal LossyOffence → RunFault
of_refusal (refusal.Row row fault) = Row row fault
of_refusal (refusal.Offence event offence) = Lossy event offence
of_refusal refusal.Bytes = Bytes

-- the fault of a network's play over such links
abbrev pub of_lossy : Halt LossyOffence → RunFault
of_lossy (play.Refused refused) = of_refusal refused
of_lossy play.Read = Read
of_lossy play.Link = Link

-- a refused file was read to at most a piece past the row that is refused
abbrev pub IsNearRun : Option (List ℕ) → (place : ℕ) → Or RunFault → Type 0
IsNearRun file place (Fault (Row row fault)) = IsNearFile file place (Fault (schedule.Row row fault))
IsNearRun file place (Fault (Offence event offence)) = IsNearFile file place (Fault (schedule.Offence event offence))
IsNearRun file place (Fault (Lossy event offence)) = IfSome file (λ bytes. IsNearIn {O = LossyOffence} (rows_of bytes) place (refusal.Offence event offence))
IsNearRun file place (Fault Bytes) = IsNearFile file place (Fault schedule.Bytes)
IsNearRun file place (Fault Read) = Unit {0}
IsNearRun file place (Fault Link) = Unit {0}
IsNearRun file place Memory = Unit {0}
