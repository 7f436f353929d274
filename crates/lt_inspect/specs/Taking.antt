-- An inspection that takes the events of a schedule one after another.
use Rattle.std.specs.Prelude.{◌≡◌, List, [], ◌∷◌, ◌++◌, Result}
use Rattle.lt_arch.specs.declared.event.Event.{Event}
use Rattle.lt_arch.specs.Schedule.{reached}
use Rattle.lt_arch.specs.Step.{offence_of}
use Rattle.lt_audit.specs.declared.fault.AuditFault.{AuditFault}
use Rattle.lt_audit.specs.Standing.{JudgesEvent}
use Rattle.lt_inspect.specs.declared.inspection.Inspection.{Inspection}
use Rattle.lt_inspect.specs.Inspecting.{IsInspected}

-- it has taken these events
abbrev pub HasInspected : {X : Type 0} {call : _} → Inspection X call → List Event → Type 0
HasInspected i events = IsInspected i.auditor i.tap.selection i.tap.shape i.text events

-- the next event is judged behind those that it has taken
abbrev pub JudgesInspected : {X : Type 0} {call : _} → Inspection X call → Event → Result (Unit {0}) AuditFault → Type 0
JudgesInspected i e result =
    (before : List Event) → HasInspected i before → JudgesEvent (offence_of i.auditor.shape i.auditor.watch.timing (reached i.auditor.shape i.auditor.watch.timing i.auditor.rows before) e) result

-- and taken too
abbrev pub TakesNext : {X : Type 0} {call : _} → (old new : Inspection X call) → Event → Type 0
TakesNext old new e = (before : List Event) → HasInspected old before → HasInspected new (before ++ e ∷ [])

-- what no event changes: the nodes and channels, the bounds of time, the rows of inputs, and what the tap selects
abbrev pub KeepsInspection : {X : Type 0} {call : _} → (old new : Inspection X call) → Type 0
KeepsInspection old new =
    (new.auditor.shape ≡ old.auditor.shape) × (new.auditor.watch.timing ≡ old.auditor.watch.timing) × (new.auditor.rows ≡ old.auditor.rows)
    × ((new.tap.selection ≡ old.tap.selection) × (new.tap.shape ≡ old.tap.shape))
