-- Events that are taken one after another: by an auditor, and by a tap that picks some.
use Rattle.std.specs.Prelude.{◌≡◌, ℕ, List, [], ◌∷◌, ◌++◌, if◌then◌else◌}
use Rattle.lt_arch.specs.declared.event.Event.{Event}
use Rattle.lt_arch.specs.declared.event.Offence as arch
use Rattle.lt_arch.specs.declared.shape.Shape.{Shape}
use Rattle.lt_rows.specs.Texts.{event_text}
use Rattle.lt_schedule.specs.declared.halt.ScheduleRefusal.{ScheduleRefusal}
use Rattle.lt_schedule.specs.declared.halt.ScheduleRefusal.TheVariants as refusal
use Rattle.lt_schedule.specs.declared.halt.Halt.{Halt}
use Rattle.lt_schedule.specs.declared.halt.Halt.TheVariants as halt
use Rattle.lt_schedule.specs.declared.halt.Stop.{Stop}
use Rattle.lt_schedule.specs.declared.halt.Stop.TheVariants as stop
use Rattle.lt_schedule.specs.Verdict.{schedule_fault_of}
use Rattle.lt_base.specs.declared.memory.Or.{Or}
use Rattle.lt_base.specs.declared.memory.Or.TheVariants.{Fault, Memory}
use Rattle.lt_load_fit.specs.declared.fault.CommandFault.{CommandFault}
use Rattle.lt_load_fit.specs.declared.fault.CommandFault.TheVariants as fault
use Rattle.lt_audit.specs.declared.fault.AuditFault.{AuditFault}
use Rattle.lt_audit.specs.declared.fault.AuditFault.TheVariants as audit
use Rattle.lt_audit.specs.declared.selection.Selection.{Selection}
use Rattle.lt_audit.specs.Audit.{AuditState}
use Rattle.lt_audit.specs.Selected.{selected}
use Rattle.lt_audit.specs.Standing.{AuditStands}
use Rattle.lt_inspect.specs.Traces.{trace_text}
use Rattle.lt_inspect.specs.Inspected.{schedule_command_fault}

-- what an event adds to the text
abbrev pub added : Selection → Shape → Event → List ℕ
added sel s e = if selected sel s e then event_text s e ++ 10 ∷ [] else []

-- the auditor stands for these events, by its own shape, timing and rows, and the text is that of those that are selected
pub record IsInspected (a : AuditState) (sel : Selection) (s : Shape) (text : List ℕ) (events : List Event) : Type 0 where
  pub stands : AuditStands a a.shape a.watch.timing a.rows events
  pub text_is : text ≡ trace_text sel s events
  pub tapped : s ≡ a.shape

-- an auditor's refusal, as why a line is not taken
abbrev pub stop_by : AuditFault → Stop arch.Offence
stop_by (audit.Offence offence) = stop.Offence offence
stop_by audit.Memory = stop.Memory

-- a refusal that names an event
abbrev pub IsOffence : ScheduleRefusal arch.Offence → Type 0
IsOffence (refusal.Row row f) = ⊥
IsOffence (refusal.Offence event offence) = Unit {0}
IsOffence refusal.Bytes = ⊥

-- why rows are not all taken, as a command's fault; memory may be wanting for the names that an offence needs
abbrev pub AsFault : Shape → Or (Halt arch.Offence) → Or CommandFault → Type 0
AsFault s (Fault (halt.Refused refused)) (Fault e) = e ≡ schedule_command_fault s (schedule_fault_of refused)
AsFault s (Fault (halt.Refused refused)) Memory = IsOffence refused
AsFault s (Fault halt.Read) (Fault e) = e ≡ fault.Read
AsFault s (Fault halt.Read) Memory = ⊥
AsFault s (Fault halt.Link) (Fault e) = e ≡ fault.Link
AsFault s (Fault halt.Link) Memory = ⊥
AsFault s Memory (Fault e) = ⊥
AsFault s Memory Memory = Unit {0}
