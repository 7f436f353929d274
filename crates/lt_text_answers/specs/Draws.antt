-- A schedule that is drawn for a program, its inputs and a setup.
use Rattle.std.specs.Prelude.{◌≡◌, ℕ, nat_lt, List, length, Option, Some, None, Result, Ok, Err, if◌then◌else◌}
use Rattle.lt_base.specs.declared.memory.Or.{Or}
use Rattle.lt_base.specs.declared.memory.Or.TheVariants.{Fault, Memory}
use Rattle.lt_arch.specs.declared.event.Event.{Event}
use Rattle.lt_arch.specs.declared.shape.Shape.{Shape}
use Rattle.lt_arch.specs.declared.timing.Timing.{Timing}
use Rattle.lt_place.specs.declared.layout.Layout.{Layout}
use Rattle.lt_answer.specs.Answered.{Verdict, AndThen}
use Rattle.lt_load_fit.specs.declared.fault.CommandFault.{CommandFault}
use Rattle.lt_load_fit.specs.Rows.{too_many_events}
use Rattle.lt_load.specs.Plan.{Plan}
use Rattle.lt_load.specs.Pacing.{plain_load_verdict}
use Rattle.lt_run.specs.Run.{IsLaidOutBy}
use Rattle.lt_sim.specs.declared.fault.SimFault.{SimFault}
use Rattle.lt_sim.specs.declared.fault.SimFault.TheVariants.{Write, TooMany}
use Rattle.lt_sim.specs.Drawn.{drawn}
use Rattle.lt_sim.specs.Laws.{IsSimShown}
use Rattle.lt_text_answers.specs.declared.status.Status.{Status}
use Rattle.lt_text_answers.specs.declared.status.Status.TheVariants as status

-- events over a shape
pub record Drawing : Type 0 where
  pub shape : Shape
  pub events : List Event

-- the most events of a schedule, the end included
abbrev pub most_drawn : ℕ
most_drawn = 5000000

-- these events, unless a schedule of them would have too many
abbrev pub drawing_within : Shape → List Event → Result Drawing CommandFault
drawing_within s events = if nat_lt most_drawn (length events) then Err too_many_events else Ok (record { shape = s; events = events })

-- what the seed draws up to the horizon
abbrev pub drawing : Shape → Timing → (rows seed horizon : ℕ) → Result Drawing CommandFault
drawing s t rows seed horizon = drawing_within s (drawn s t rows seed horizon)

-- where they are not too many they keep to the bounds, end at the horizon, and their file reads back as they are
abbrev pub ShowsDrawing : Shape → Timing → (rows horizon : ℕ) → Result Drawing CommandFault → Type 0
ShowsDrawing s t rows horizon (Ok d) = IsSimShown s t rows horizon d.events
ShowsDrawing s t rows horizon (Err e) = Unit {0}

-- how a call ends by how its schedule was recorded; one with too many events is refused
abbrev pub recorded_status : Result ℕ (Or SimFault) → Option Status
recorded_status (Ok count) = Some status.Ok
recorded_status (Err (Fault Write)) = Some status.Write
recorded_status (Err (Fault TooMany)) = None
recorded_status (Err Memory) = Some status.Memory

-- a plan: the schedule over the channels of its nodes, which reads back
unfoldable pub plan_drawn_verdict : (seed horizon : ℕ) → Plan → Verdict Drawing CommandFault
plan_drawn_verdict seed horizon plan outcome =
    (l : Layout) × (s : Shape) × IsLaidOutBy plan l s × (drawing s plan.setup.timing (length plan.inputs.rows) seed horizon ≡ outcome)
    × ShowsDrawing s plan.setup.timing (length plan.inputs.rows) horizon outcome

-- the program, the setup, in which no node leads, the placement, the timing and the inputs, in this order, and then the schedule
unfoldable pub sim_verdict : (named : List ℕ → Option (List ℕ)) (program inputs config : List ℕ) (seed horizon : ℕ) → Verdict Drawing CommandFault
sim_verdict named program inputs config seed horizon = AndThen (plain_load_verdict named program inputs config) (λ plan. plan_drawn_verdict seed horizon plan)
