-- What a reader has of a drawn schedule.
use Rattle.std.specs.Prelude.{◌≡◌, ◌≤◌, ℕ, List, length, Option, Some, Ok, Err}
use Rattle.lt_arch.specs.declared.event.Event.{Event}
use Rattle.lt_arch.specs.declared.pace.Pace.TheVariants.{Plain}
use Rattle.lt_arch.specs.declared.shape.Shape.{Shape}
use Rattle.lt_place.specs.declared.layout.Layout.{Layout}
use Rattle.lt_answer.specs.World.{World}
use Rattle.lt_load_fit.specs.declared.fault.CommandFault.{CommandFault}
use Rattle.lt_load.specs.Plan.{Plan, load_verdict}
use Rattle.lt_load.specs.Pacing.{plain_load_verdict}
use Rattle.lt_run.specs.Run.{IsLaidOutBy, run_verdict}
use Rattle.lt_sim.specs.Drawn.{drawn}
use Rattle.lt_sim.specs.File.{file_text}
use Rattle.lt_sim.specs.Laws.{IsSimShown}
use Rattle.lt_cli.specs.Objects.{Objects}
use Rattle.lt_cli.specs.Taken.{TookText}

-- of whatever files that hold this program with its setup and its inputs, and this text as a schedule, no refusal of a run is right
abbrev pub RunsOnText : Plan → (text : List ℕ) → Type 0
RunsOnText plan text =
    (named : List ℕ → Option (List ℕ)) (program inputs schedule : List ℕ) (config : Option (List ℕ)) → load_verdict named program inputs config (Ok plan) → named schedule ≡ Some text →
    (new : World) (e : CommandFault) → run_verdict named program inputs schedule config new (Err e) → ⊥

-- a schedule was drawn for the program, the inputs and the setup that the files of these names hold
pub record IsDrawnShown (named : List ℕ → Option (List ℕ)) (program inputs config : List ℕ) (seed horizon : ℕ) (old new : Objects) : Type 0 where
  -- the program, the setup and the rows of inputs, in which no link loses messages and no node leads
  pub plan : Plan
  pub loaded : plain_load_verdict named program inputs config (Ok plan)
  pub plain : plan.setup.pace ≡ Plain
  -- the nodes with their parts of the program, and the channels between them
  pub layout : Layout
  pub shape : Shape
  pub laid : IsLaidOutBy plan layout shape
  -- the events that the seed draws up to the horizon, which are not too many
  pub events : List Event
  pub drawn_are : events ≡ drawn shape plan.setup.timing (length plan.inputs.rows) seed horizon
  pub few : length events ≤ 5000000
  -- `out` took their file, and `err` nothing
  pub text : TookText (file_text shape events) old new
  -- they keep to the bounds and end at the horizon, and this text reads, as a schedule file, as these events
  pub shows : IsSimShown shape plan.setup.timing (length plan.inputs.rows) horizon events
  -- so a run along it, with the same program, setup and inputs, is not refused
  pub runs : RunsOnText plan (file_text shape events)
