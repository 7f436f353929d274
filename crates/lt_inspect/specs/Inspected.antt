-- What is told of a schedule that is judged with any number of messages in transit.
use Rattle.std.specs.Prelude.{◌≡◌, ℕ, List, length, Option, None, Result, Ok, Err}
use Rattle.lt_io.specs.FilesState.{FilesState}
use Rattle.lt_arch.specs.declared.event.Event.{Event}
use Rattle.lt_arch.specs.declared.shape.Shape.{Shape}
use Rattle.lt_arch.specs.declared.timing.Timing.{Timing}
use Rattle.lt_arch.specs.Schedule.{IsAdmissible}
use Rattle.lt_timing.specs.Accepts.{Accepts}
use Rattle.lt_schedule.specs.declared.fault.ScheduleFault.{ScheduleFault}
use Rattle.lt_schedule.specs.declared.fault.ScheduleFault.TheVariants as schedule
use Rattle.lt_schedule.specs.Verdict.{verdict}
use Rattle.lt_audit.specs.declared.selection.Selection.{Selection}
use Rattle.lt_audit.specs.Misses.{FirstMiss}
use Rattle.lt_answer.specs.Answered.{Verdict, AndThen, OfFile}
use Rattle.lt_answer.specs.Rules.{Raised}
use Rattle.lt_load_fit.specs.declared.fault.What.TheVariants.{ScheduleBytes}
use Rattle.lt_load_fit.specs.declared.fault.CommandFault.{CommandFault}
use Rattle.lt_load_fit.specs.declared.fault.CommandFault.TheVariants as fault
use Rattle.lt_load.specs.Near.{ReadNear}
use Rattle.lt_load.specs.Plan.{Plan}
use Rattle.lt_inspect.specs.declared.scene.Scene.{Scene}
use Rattle.lt_inspect.specs.declared.audited.Audited.{Audited}
use Rattle.lt_inspect.specs.Scenes.{IsSceneOf, scene_verdict}
use Rattle.lt_inspect.specs.Traces.{trace_text}

-- what is right of a schedule that reads as these events, or is refused
abbrev pub InspectionEndsWith : {T : Type 0} → (end : List Event → T → Type 0) → Result (List Event) ScheduleFault → Verdict T ScheduleFault
InspectionEndsWith end (Ok events) (Ok x) = end events x
InspectionEndsWith end (Ok events) (Err e) = ⊥
InspectionEndsWith end (Err e) outcome = outcome ≡ Err e

-- what is right of a schedule file, with so many rows of inputs
unfoldable pub inspect_file_verdict : {T : Type 0} → (end : List Event → T → Type 0) → Shape → Timing → (rows : ℕ) → Option (List ℕ) → Verdict T ScheduleFault
inspect_file_verdict end s t rows file = OfFile schedule.Read file (λ bytes outcome. InspectionEndsWith end (verdict s t rows bytes) outcome)

-- a schedule's fault as a command's, beside the shape whose nodes it names
abbrev pub schedule_command_fault : Shape → ScheduleFault → CommandFault
schedule_command_fault s (schedule.Row row f) = fault.Row row f
schedule_command_fault s (schedule.Offence event offence) = fault.Offence event offence s
schedule_command_fault s schedule.Bytes = fault.Limit ScheduleBytes
schedule_command_fault s schedule.Read = fault.Read

-- a scene along a schedule file, with the schedule's faults as a command's
abbrev pub along_scene : {T : Type 0} → (end : List Event → T → Type 0) → Scene → Option (List ℕ) → Verdict T CommandFault
along_scene end k file = Raised (schedule_command_fault k.shape) (inspect_file_verdict end k.shape k.timing k.rows file)

-- a plan along a schedule file: what is told of its events, or the first row or event that is refused
abbrev pub inspect_along_verdict : {T : Type 0} → (end : Scene → List Event → T → Type 0) → (node file : Option (List ℕ)) → Plan → Verdict T CommandFault
inspect_along_verdict end node file plan outcome = (k : Scene) × IsSceneOf plan node k × along_scene (end k) k file outcome

-- The first message too few or too many.

-- what is told of these events: none has an offence and an end was taken; how many there are; and the first at which a node executes
-- with a message too few or too many, which there is none of where the timing is accepted
pub record IsAudited (k : Scene) (events : List Event) (a : Audited) : Type 0 where
  pub admissible : IsAdmissible k.shape k.timing k.rows events
  pub count : a.events ≡ length events
  pub shape : a.shape ≡ k.shape
  pub first : FirstMiss k.shape k.timing k.rows events a.miss
  pub clean : Accepts k.timing → a.miss ≡ None

-- the program, the setup, the placement, the inputs and the schedule, in this order
unfoldable pub ordered_audit_verdict : (named : List ℕ → Option (List ℕ)) (program inputs schedule config : List ℕ) → Verdict Audited CommandFault
ordered_audit_verdict named program inputs schedule config =
    AndThen (scene_verdict named program inputs config None) (λ plan. inspect_along_verdict IsAudited None (named schedule) plan)

-- and where it is the schedule that is refused, its file was read to at most a piece past the row that is refused
abbrev pub audit_verdict : (named : List ℕ → Option (List ℕ)) (program inputs schedule config : List ℕ) → (new : FilesState) → Verdict Audited CommandFault
audit_verdict named program inputs schedule config new = ReadNear (named schedule) new.place (ordered_audit_verdict named program inputs schedule config)

-- The events that are selected.

-- the events at a node, or all, within these bounds of time
abbrev pub selection_of : Scene → (from to : ℕ) → Selection
selection_of k from to = record { node = k.node; from = from; to = to }

-- what is told of these events: none has an offence and an end was taken; and those that are selected
pub record IsTraced (from to : ℕ) (k : Scene) (events : List Event) (text : List ℕ) : Type 0 where
  pub admissible : IsAdmissible k.shape k.timing k.rows events
  pub text_is : text ≡ trace_text (selection_of k from to) k.shape events

-- the program, the setup, the placement, the node that is named, the inputs and the schedule, in this order
unfoldable pub ordered_trace_verdict : (named : List ℕ → Option (List ℕ)) (program inputs schedule config : List ℕ) (node : Option (List ℕ)) (from to : ℕ) → Verdict (List ℕ) CommandFault
ordered_trace_verdict named program inputs schedule config node from to =
    AndThen (scene_verdict named program inputs config node) (λ plan. inspect_along_verdict (IsTraced from to) node (named schedule) plan)

-- and where it is the schedule that is refused, its file was read to at most a piece past the row that is refused
abbrev pub trace_verdict : (named : List ℕ → Option (List ℕ)) (program inputs schedule config : List ℕ) (node : Option (List ℕ)) (from to : ℕ) → (new : FilesState) → Verdict (List ℕ) CommandFault
trace_verdict named program inputs schedule config node from to new = ReadNear (named schedule) new.place (ordered_trace_verdict named program inputs schedule config node from to)
