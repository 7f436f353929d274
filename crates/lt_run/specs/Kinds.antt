-- The events of a run by who paces its rounds, and what they come to.
use Rattle.std.specs.Prelude.{◌≡◌, ℕ, List, Option, Result, Ok, Err}
use Rattle.lt_base.specs.declared.value.Value.{Value}
use Rattle.lt_base.specs.declared.value.Cell.{Cell}
use Rattle.lt_base.specs.Program.{Function}
use Rattle.lt_arch.specs.declared.event.Event.{Event}
use Rattle.lt_arch.specs.declared.shape.Shape.{Shape}
use Rattle.lt_arch.specs.declared.timing.Timing.{Timing}
use Rattle.lt_arch.specs.declared.timing.Protocol.TheVariants.{TimeBased}
use Rattle.lt_arch.specs.State.{executed_of}
use Rattle.lt_arch.specs.Schedule.{reached}
use Rattle.lt_io.specs.FabricState.{FabricState}
use Rattle.lt_place.specs.declared.layout.Layout.{Layout}
use Rattle.lt_arch.specs.declared.pace.Pace.{Pace}
use Rattle.lt_arch.specs.declared.pace.Pace.TheVariants.{Plain, Lossy, Leader}
use Rattle.lt_answer.specs.Answered.{OfFile, Verdict}
use Rattle.lt_schedule.specs.declared.fault.ScheduleFault.{ScheduleFault}
use Rattle.lt_schedule.specs.declared.halt.ScheduleRefusal.{ScheduleRefusal}
use Rattle.lt_schedule.specs.Rules.{file_judged_by}
use Rattle.lt_schedule.specs.Verdict.{verdict}
use Rattle.lt_lossy.specs.declared.event.LossyEvent.{LossyEvent}
use Rattle.lt_lossy.specs.declared.event.LossyOffence.{LossyOffence}
use Rattle.lt_lossy.specs.Schedule.{lossy_reached}
use Rattle.lt_net_lossy.specs.Rules.{lossy_rules_of}
use Rattle.lt_net_lossy.specs.LossyRun.{IsLossyRun, HasLossySteps, executed_in}
use Rattle.lt_net_replay.specs.Run.{IsRun, HasSteps, MessagesAreWhole, ExecutesOnExactMessages}
use Rattle.lt_run.specs.declared.fault.RunFault.{RunFault}
use Rattle.lt_run.specs.declared.fault.RunFault.TheVariants.{Read}
use Rattle.lt_run.specs.Fault.{of_refusal, of_schedule}
use Rattle.lt_machine.specs.declared.machine.Machine.{Ghosts as Machines}

-- lists of events
abbrev pub EventsBy : Pace → Type 0
EventsBy Plain = List Event
EventsBy (Lossy losses) = List LossyEvent
EventsBy (Leader leader) = List Event

-- refusals of schedules
abbrev pub RefusalBy : Pace → Type 0
RefusalBy Plain = ScheduleFault
RefusalBy (Lossy losses) = ScheduleRefusal LossyOffence
RefusalBy (Leader leader) = ScheduleFault

-- what the bytes of a schedule read as: its events, or the first row or event that is refused
abbrev pub verdict_by : (pace : Pace) → Shape → Timing → (rows : ℕ) → (bytes : List ℕ) → Result (EventsBy pace) (RefusalBy pace)
verdict_by Plain s t rows bytes = verdict s t rows bytes
verdict_by (Lossy losses) s t rows bytes = file_judged_by (lossy_rules_of s t losses rows) bytes
verdict_by (Leader leader) s t rows bytes = verdict s t rows bytes

-- a refusal as a fault of the run
abbrev pub fault_by : (pace : Pace) → RefusalBy pace → RunFault
fault_by Plain refused = of_schedule refused
fault_by (Lossy losses) refused = of_refusal refused
fault_by (Leader leader) refused = of_schedule refused

-- how many instants node n has executed after these events
abbrev pub executed_by : (pace : Pace) → Shape → Timing → (rows : ℕ) → EventsBy pace → (n : ℕ) → ℕ
executed_by Plain s t rows events n = executed_of (reached s t rows events) n
executed_by (Lossy losses) s t rows events n = executed_in (lossy_reached s t rows events) n
executed_by (Leader leader) s t rows events n = executed_of (reached s t rows events) n

-- these cells are those of the outputs at the end of the events, at this horizon, and the fabric is as it is there
abbrev pub IsRunBy : (pace : Pace) → Layout → Shape → Timing → (inputs : List (List Value)) → FabricState → EventsBy pace → (cells : List (List Cell)) → (horizon : ℕ) → Type 0
IsRunBy Plain l s t inputs fabric events cells horizon = IsRun l s t inputs fabric events cells horizon
IsRunBy (Lossy losses) l s t inputs fabric events cells horizon = IsLossyRun l s t losses inputs fabric events cells horizon
IsRunBy (Leader leader) l s t inputs fabric events cells horizon = IsRun l s t inputs fabric events cells horizon

-- the payloads that were delivered on each channel
abbrev pub got_by : (pace : Pace) (l : Layout) (s : Shape) (t : Timing) (inputs : List (List Value)) (fabric : FabricState) (events : EventsBy pace) (cells : List (List Cell)) (horizon : ℕ) → IsRunBy pace l s t inputs fabric events cells horizon → (c : ℕ) → List (List Value)
got_by Plain l s t inputs fabric events cells horizon run = run.lists.got
got_by (Lossy losses) l s t inputs fabric events cells horizon run = run.got
got_by (Leader leader) l s t inputs fabric events cells horizon run = run.lists.got

-- under the time-based protocol, with a leader or without, each instant is executed on exactly the messages before it; where links lose messages the
-- protocol is another one
abbrev pub ExactBy : (pace : Pace) → Shape → Timing → (rows : ℕ) → EventsBy pace → Type 0
ExactBy Plain s t rows events = t.protocol ≡ TimeBased → ExecutesOnExactMessages s t rows events
ExactBy (Lossy losses) s t rows events = Unit {0}
ExactBy (Leader leader) s t rows events = t.protocol ≡ TimeBased → ExecutesOnExactMessages s t rows events

-- where links lose no messages, what was delivered and what is in transit has entries of the streams of a whole function
abbrev pub CrossesBy : (pace : Pace) → Function → (l : Layout) (s : Shape) (t : Timing) (inputs : List (List Value)) (fabric : FabricState) (events : EventsBy pace) (cells : List (List Cell)) (horizon : ℕ) → IsRunBy pace l s t inputs fabric events cells horizon → Type 0
CrossesBy Plain f l s t inputs fabric events cells horizon run = MessagesAreWhole f l s inputs run.lists fabric
CrossesBy (Lossy losses) f l s t inputs fabric events cells horizon run = Unit {0}
CrossesBy (Leader leader) f l s t inputs fabric events cells horizon run = MessagesAreWhole f l s inputs run.lists fabric

-- there is a machine for each node, and it has run its part on the node's inputs and on what was delivered
abbrev pub HasStepsBy : {M : Type 0} (mch : Machines M) (pace : Pace) → Layout → Shape → Timing → (inputs : List (List Value)) → EventsBy pace → (got : ℕ → List (List Value)) → List M → Type 0
HasStepsBy mch Plain l s t inputs events got machines = HasSteps mch l s t inputs events got machines
HasStepsBy mch (Lossy losses) l s t inputs events got machines = HasLossySteps mch l s t inputs events got machines
HasStepsBy mch (Leader leader) l s t inputs events got machines = HasSteps mch l s t inputs events got machines

-- what is right of a schedule that reads as events, or is refused: what they come to, or that refusal
abbrev pub RunEndsBy : {E F T : Type 0} → (raise : F → RunFault) → (end : E → T → Type 0) → Result E F → Verdict T RunFault
RunEndsBy raise end (Ok events) (Ok x) = end events x
RunEndsBy raise end (Ok events) (Err fault) = ⊥
RunEndsBy raise end (Err refused) outcome = outcome ≡ Err (raise refused)

-- what is right of a schedule file, with so many rows of inputs
unfoldable pub run_file_verdict : {T : Type 0} → (pace : Pace) → (end : EventsBy pace → T → Type 0) → Shape → Timing → (rows : ℕ) → Option (List ℕ) → Verdict T RunFault
run_file_verdict pace end s t rows file = OfFile Read file (λ bytes outcome. RunEndsBy (fault_by pace) end (verdict_by pace s t rows bytes) outcome)
