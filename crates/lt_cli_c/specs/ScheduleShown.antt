-- What a reader has of a schedule that `lttac` drew.
use Rattle.std.specs.Prelude.{◌≡◌, ◌≤◌, ℕ, false, List, length, Option, Some, Ok}
use Rattle.lt_arch.specs.declared.event.Event.{Event}
use Rattle.lt_arch.specs.declared.pace.Pace.{Pace}
use Rattle.lt_arch.specs.declared.pace.Pace.TheVariants.{Plain, Lossy, Leader}
use Rattle.lt_arch.specs.declared.shape.Shape.{Shape}
use Rattle.lt_arch.specs.declared.timing.Timing.{Timing}
use Rattle.lt_lossy.specs.declared.event.LossyEvent.{LossyEvent}
use Rattle.lt_place.specs.declared.layout.Layout.{Layout}
use Rattle.lt_load.specs.Plan.{Plan, load_verdict}
use Rattle.lt_run.specs.Run.{IsLaidOutBy}
use Rattle.lt_sim.specs.Drawn.{drawn}
use Rattle.lt_sim.specs.File.{file_text}
use Rattle.lt_sim.specs.Laws.{IsSimShown}
use Rattle.lt_losing.specs.Losing.{lossy_drawn}
use Rattle.lt_losing.specs.LossyFile.{lossy_file_text}
use Rattle.lt_losing.specs.Laws.{IsLossyShown}
use Rattle.lt_scheduling.specs.Scheduled.{IsDrawnBy, asks_losses}
use Rattle.lt_cli.specs.DrawnShown.{RunsOnText}
use Rattle.lt_cli.specs.Objects.{Objects}
use Rattle.lt_cli.specs.Taken.{TookText}

-- the text is the file of a schedule in which each message arrives
pub record IsFileDrawn (s : Shape) (own narrow : Timing) (rows seed horizon : ℕ) (text : List ℕ) : Type 0 where
  -- the events that the seed draws up to the horizon, which are not too many
  pub events : List Event
  pub drawn_are : events ≡ drawn s narrow rows seed horizon
  pub few : length events ≤ 5000000
  pub text_is : text ≡ file_text s events
  -- they keep to the setup's own bounds and end at the horizon, and this text reads, as a schedule file, as these events
  pub shows : IsSimShown s own rows horizon events

-- the text is the file of a schedule over links that lose messages, at most so many in a row on a channel, and of a thousand so many as the loss
pub record IsLossyFileDrawn (s : Shape) (own narrow : Timing) (limit loss rows seed horizon : ℕ) (text : List ℕ) : Type 0 where
  -- the events that the seed draws up to the horizon, which are not too many
  pub events : List LossyEvent
  pub drawn_are : events ≡ lossy_drawn s narrow limit rows loss seed horizon
  pub few : length events ≤ 5000000
  pub text_is : text ≡ lossy_file_text s events
  -- they keep to the setup's own bounds, also on losses, and end at the horizon, and this text reads, as a schedule file, as these events
  pub shows : IsLossyShown s own limit rows horizon events

-- by the pace of the protocol
abbrev pub IsTextDrawn : Pace → (loss : ℕ) → Shape → (own narrow : Timing) → (rows seed horizon : ℕ) → (text : List ℕ) → Type 0
IsTextDrawn Plain loss s own narrow rows seed horizon text = IsFileDrawn s own narrow rows seed horizon text
IsTextDrawn (Lossy limit) loss s own narrow rows seed horizon text = IsLossyFileDrawn s own narrow limit loss rows seed horizon text
IsTextDrawn (Leader leader) loss s own narrow rows seed horizon text = IsFileDrawn s own narrow rows seed horizon text

-- a schedule was drawn for the program, the inputs and the setup that the files of these names hold
pub record IsScheduleShown (named : List ℕ → Option (List ℕ)) (program inputs config : List ℕ) (loss seed horizon : ℕ) (jitter : Option ℕ) (old new : Objects) : Type 0 where
  -- the program, the setup and the rows of inputs
  pub plan : Plan
  pub loaded : load_verdict named program inputs (Some config) (Ok plan)
  -- no messages were to be lost where links lose none
  pub unasked : asks_losses plan.setup.pace loss ≡ false
  -- the nodes with their parts of the program, and the channels between them
  pub layout : Layout
  pub shape : Shape
  pub laid : IsLaidOutBy plan layout shape
  -- the timing that it is drawn by: the setup's own, or that one with its periods narrowed
  pub narrow : Timing
  pub drawn_by : IsDrawnBy jitter plan.setup.timing narrow
  -- `out` took its text, and `err` nothing
  pub text : List ℕ
  pub took : TookText text old new
  -- it is the file of what the seed draws, and reads back
  pub is_drawn : IsTextDrawn plan.setup.pace loss shape plan.setup.timing narrow (length plan.inputs.rows) seed horizon text
  -- so a run along it, with the same program, setup and inputs, is not refused
  pub runs : RunsOnText plan text
