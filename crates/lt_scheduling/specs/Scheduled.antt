-- A schedule that is drawn for a program, its inputs and a setup, by the pace of its protocol.
use Rattle.std.specs.Prelude.{◌≡◌, ℕ, nat_lt, Bool, true, false, List, length, Option, Some, None, Result, Err, codes}
use Rattle.lt_base.specs.declared.memory.Or.{Or}
use Rattle.lt_arch.specs.declared.pace.Pace.{Pace}
use Rattle.lt_arch.specs.declared.pace.Pace.TheVariants.{Plain, Lossy, Leader}
use Rattle.lt_arch.specs.declared.shape.Shape.{Shape}
use Rattle.lt_arch.specs.declared.timing.Timing.{Timing}
use Rattle.lt_narrow.specs.Narrow.{IsNarrowed}
use Rattle.lt_place.specs.declared.layout.Layout.{Layout}
use Rattle.lt_config.specs.declared.fault.ConfigKind.TheVariants.{OutOfRange}
use Rattle.lt_io.specs.FilesState.{FilesState}
use Rattle.lt_answer.specs.Alone.{AnsweredOnFiles}
use Rattle.lt_answer.specs.Answered.{Verdict, AndThen}
use Rattle.lt_answer.specs.Rules.{Shown}
use Rattle.lt_load_fit.specs.declared.fault.CommandFault.{CommandFault}
use Rattle.lt_load_fit.specs.declared.fault.CommandFault.TheVariants as fault
use Rattle.lt_load.specs.Blamed.{command_blame}
use Rattle.lt_load.specs.Errands.{load_errands}
use Rattle.lt_load.specs.Plan.{Plan, load_verdict}
use Rattle.lt_run.specs.Run.{IsLaidOutBy}
use Rattle.lt_text_answers.specs.Draws.{Drawing, ShowsDrawing, drawing}
use Rattle.lt_text_answers.specs.Texts.{drawing_text}
use Rattle.lt_scheduling.specs.Losses.{LossyListing, listing_text, lossy_listing, ShowsListing}

-- the timing that a schedule is drawn by: the setup's own, or that one with its periods narrowed to so many thousandths
abbrev pub IsDrawnBy : (jitter : Option ℕ) → (own narrow : Timing) → Type 0
IsDrawnBy None own narrow = narrow ≡ own
IsDrawnBy (Some jitter) own narrow = IsNarrowed jitter own narrow

-- what the seed draws up to the horizon over these channels, for so many rows of inputs, by the timing `narrow`; by the setup's own timing it keeps to
-- the bounds, ends at the horizon, and its file reads back
abbrev pub arriving_verdict : Shape → (own narrow : Timing) → (rows seed horizon : ℕ) → Verdict Drawing CommandFault
arriving_verdict s own narrow rows seed horizon outcome = (drawing s narrow rows seed horizon ≡ outcome) × ShowsDrawing s own rows horizon outcome

-- the same where links lose messages, at most so many in a row on a channel, and of a thousand that may be lost so many as the loss
abbrev pub losing_verdict : (limit loss : ℕ) → Shape → (own narrow : Timing) → (rows seed horizon : ℕ) → Verdict LossyListing CommandFault
losing_verdict limit loss s own narrow rows seed horizon outcome =
    (lossy_listing s narrow limit rows loss seed horizon ≡ outcome) × ShowsListing s own limit rows horizon outcome

-- the text of what is drawn, by the pace of the protocol
abbrev pub text_by_pace : Pace → (loss : ℕ) → Shape → (own narrow : Timing) → (rows seed horizon : ℕ) → Verdict (List ℕ) CommandFault
text_by_pace Plain loss s own narrow rows seed horizon = Shown drawing_text (arriving_verdict s own narrow rows seed horizon)
text_by_pace (Lossy limit) loss s own narrow rows seed horizon = Shown listing_text (losing_verdict limit loss s own narrow rows seed horizon)
text_by_pace (Leader leader) loss s own narrow rows seed horizon = Shown drawing_text (arriving_verdict s own narrow rows seed horizon)

-- a plan: that text, over the channels of its nodes, by a timing with this jitter
abbrev pub paced_verdict : Pace → (loss seed horizon : ℕ) (jitter : Option ℕ) → Plan → Verdict (List ℕ) CommandFault
paced_verdict pace loss seed horizon jitter plan outcome =
    (l : Layout) × (s : Shape) × (narrow : Timing) × IsLaidOutBy plan l s × IsDrawnBy jitter plan.setup.timing narrow
    × text_by_pace pace loss s plan.setup.timing narrow (length plan.inputs.rows) seed horizon outcome

-- the setup's `losses` is outside the range that a command takes
abbrev pub losses_fault : CommandFault
losses_fault = fault.Config (record { kind = OutOfRange; key = codes "losses" })

-- whether messages are to be lost, and links lose none under this pace
abbrev pub asks_losses : Pace → (loss : ℕ) → Bool
asks_losses Plain loss = nat_lt 0 loss
asks_losses (Lossy limit) loss = false
asks_losses (Leader leader) loss = nat_lt 0 loss

-- where they are, that refusal alone
abbrev pub unless_asked : (asked : Bool) → Verdict (List ℕ) CommandFault → Verdict (List ℕ) CommandFault
unless_asked true V outcome = Err losses_fault ≡ outcome
unless_asked false V outcome = V outcome

-- by this pace
abbrev pub schedule_verdict_by : Pace → (loss seed horizon : ℕ) (jitter : Option ℕ) → Plan → Verdict (List ℕ) CommandFault
schedule_verdict_by pace loss seed horizon jitter plan = unless_asked (asks_losses pace loss) (paced_verdict pace loss seed horizon jitter plan)

-- a plan: the text of its schedule, by the pace of its protocol
unfoldable pub plan_schedule_verdict : (loss seed horizon : ℕ) (jitter : Option ℕ) → Plan → Verdict (List ℕ) CommandFault
plan_schedule_verdict loss seed horizon jitter plan = schedule_verdict_by plan.setup.pace loss seed horizon jitter plan

-- the program, the setup, the placement, the timing and the inputs, in this order, as in a run, and then the text of the schedule, where of a thousand
-- messages that may be lost so many are lost as the loss
unfoldable pub schedule_verdict : (named : List ℕ → Option (List ℕ)) (program inputs config : List ℕ) (loss seed horizon : ℕ) (jitter : Option ℕ) → Verdict (List ℕ) CommandFault
schedule_verdict named program inputs config loss seed horizon jitter =
    AndThen (load_verdict named program inputs (Some config)) (λ plan. plan_schedule_verdict loss seed horizon jitter plan)

-- the text of the schedule is drawn
abbrev pub SchedulesOnFiles : (program inputs config : List ℕ) (loss seed horizon : ℕ) (jitter : Option ℕ) (old new : FilesState) → Result (List ℕ) (Or CommandFault) → Type 0
SchedulesOnFiles program inputs config loss seed horizon jitter old new result =
    AnsweredOnFiles command_blame (load_errands program inputs (Some config)) (schedule_verdict old.named program inputs config loss seed horizon jitter) old new result
