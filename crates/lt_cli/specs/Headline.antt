-- The promise of `run`: what its printed lines are, said of the whole program, which knows no nodes.
--
-- `IsOutputShown` has the four facts of one output. `IsRunAlong` says what they are of: the program, the setup, the inputs and the schedule that
-- the files hold, and the events that the schedule reads as, none of which is refused. `IsRunShown` adds that these cells are what was printed.
-- Of a schedule that is refused `IsFirstRefused` says at which event, and by which offence.
use Rattle.std.specs.Prelude.{◌≡◌, ◌<◌, ◌≤◌, ℕ, min, IsTrue, List, [], length, take, Option, Some, None, Ok, slice_get, slice_index_or}
use Rattle.lt_base.specs.declared.value.Value.{Value}
use Rattle.lt_base.specs.declared.value.Cell.{Cell}
use Rattle.lt_base.specs.Program.{WholeProgram}
use Rattle.lt_arch.specs.declared.event.Event.{Event}
use Rattle.lt_arch.specs.declared.event.Offence.{Offence}
use Rattle.lt_arch.specs.declared.shape.Shape.{Shape}
use Rattle.lt_arch.specs.declared.timing.Timing.{Timing}
use Rattle.lt_arch.specs.Paced.{allowed_of}
use Rattle.lt_arch.specs.Step.{offence_of}
use Rattle.lt_arch.specs.State.{executed_of}
use Rattle.lt_arch.specs.Schedule.{reached}
use Rattle.lt_io.specs.FabricState.{FabricState}
use Rattle.lt_place.specs.declared.layout.Layout.{Layout}
use Rattle.lt_place.specs.Layout.{IsLayoutOf, PartGives, part_of}
use Rattle.lt_arch.specs.declared.pace.Pace.TheVariants.{Plain}
use Rattle.lt_timing.specs.Bounds.{bound_of}
use Rattle.lt_lead.specs.Paced.{IsShapeBy, bound_by}
use Rattle.lt_net_node.specs.Local.{local_stream}
use Rattle.lt_net_node.specs.Payloads.{payloads_between, row_at}
use Rattle.lt_rows.specs.Rows.{rows_of}
use Rattle.lt_schedule.specs.Settled.{ReadAs}
use Rattle.lt_front.specs.Flattened.{flat_of}
use Rattle.lt_evaluate.specs.Main.{output_streams}
use Rattle.lt_load.specs.Plan.{Plan, load_verdict}
use Rattle.lt_evaluate.specs.declared.outputs.Outputs.{Outputs}
use Rattle.lt_run.specs.Kinds.{EventsBy, ExactBy, CrossesBy, executed_by, verdict_by}
use Rattle.lt_run.specs.Run.{OutputsShow}
use Rattle.lt_big_texts.specs.Texts.{horizon_of}
use Rattle.lt_big.specs.Big.{big_loaded_verdict, events_of}
use Rattle.lt_text_answers.specs.Replies.{printed_text, summarized_text}
use Rattle.lt_cli.specs.Objects.{Objects}
use Rattle.lt_cli.specs.Taken.{TookText}

-- One output of `main`, the one at place y among them, as it is printed: these cells. It is variable x of the part of node n. `executed` is how many
-- instants the node has executed along the schedule, `least` how many its protocol promises up to the schedule's horizon, and `got` what each
-- channel delivered.
pub record IsOutputShown (p : WholeProgram) (l : Layout) (s : Shape) (inputs : List (List Value)) (fabric : FabricState) (got : ℕ → List (List Value)) (executed least y n x : ℕ) (cells : List Cell) : Type 0 where
  -- As many cells as the output's node has executed instants: none is missing, and none is made up.
  pub count : length cells ≡ executed
  -- They are what the node's own part of the program computes from the rows of inputs and from what was delivered to the node, and from nothing else.
  pub local : cells ≡ local_stream l (payloads_between s got) n (row_at inputs) (length cells) x
  -- Over links that hand on what they were given they are the beginning of the output's stream in the whole program, as one synchronous program
  -- without nodes, messages or times has it on the same inputs.
  pub whole : IsTrue fabric.faithful → cells ≡ take (length cells) (slice_index_or (output_streams p inputs) y [])
  -- They are enough: at least as many as the protocol promises, or one for each row of inputs where there are fewer rows.
  pub enough : min least (length inputs) ≤ length cells

-- the outputs of a run of this program on these inputs, along this schedule and with this setup, files of these names, over a fabric that ends so
pub record IsRunAlong (named : List ℕ → Option (List ℕ)) (program inputs schedule : List ℕ) (config : Option (List ℕ)) (fabric : FabricState) (ran : Outputs) : Type 0 where
  -- the program, the setup and the rows of inputs that the files hold
  pub plan : Plan
  pub loaded : load_verdict named program inputs config (Ok plan)
  -- the nodes with their parts of the program, and the channels between them
  pub layout : Layout
  pub laid : IsLayoutOf (flat_of plan.checked.program) plan.setup.placement layout
  pub shape : Shape
  pub shaped : IsShapeBy layout plan.setup.pace plan.setup.timing shape
  -- the schedule's file reads as these events, none of which is refused
  pub bytes : List ℕ
  pub file : named schedule ≡ Some bytes
  pub events : EventsBy plan.setup.pace
  pub reads : verdict_by plan.setup.pace shape plan.setup.timing (length plan.inputs.rows) bytes ≡ Ok events
  -- what the fabric holds and tells after the events, and what the nodes were given
  pub shows : OutputsShow plan.checked.program layout shape plan.setup.timing plan.setup.pace plan.inputs.rows fabric events ran
  -- of each output, on its node, which has executed so many instants after the events, at least its bound for the horizon, by who paces the rounds
  pub outputs : (y n x : ℕ) → y < length layout.outs → n < length layout.nodes → PartGives (part_of layout n) (slice_index_or layout.outs y 0) x →
      IsOutputShown plan.checked.program layout shape plan.inputs.rows fabric shows.told.got
      (executed_by plan.setup.pace shape plan.setup.timing (length plan.inputs.rows) events n) (bound_by plan.setup.pace plan.setup.timing n shows.horizon) y n x (slice_index_or ran.cells y [])
  -- Under the time-based protocol, with a leader or without, a node that executes an instant after k others has exactly k messages delivered on each
  -- channel of values to it: the one of the instant before is there, and none of a later one.
  pub exact : ExactBy plan.setup.pace shape plan.setup.timing (length plan.inputs.rows) events
  -- Over links that hand on what they were given and lose none, message k + 1 of a channel of values, delivered or in transit, has entry k of each
  -- variable that crosses there, in the whole program.
  pub crosses : IsTrue fabric.faithful → CrossesBy plan.setup.pace (flat_of plan.checked.program).func layout shape plan.setup.timing plan.inputs.rows fabric events ran.cells shows.horizon shows.told.run

-- These files hold a program, inputs and a setup that are not refused, in which no link loses messages, and a schedule whose rows all read as
-- these events, within the limits, over the nodes and channels of this shape.
pub record HoldEvents (named : List ℕ → Option (List ℕ)) (program inputs schedule : List ℕ) (config : Option (List ℕ)) (plan : Plan) (s : Shape) (events : List Event) : Type 0 where
  pub loaded : load_verdict named program inputs config (Ok plan)
  pub lossless : allowed_of plan.setup.pace ≡ None
  pub layout : Layout
  pub laid : IsLayoutOf (flat_of plan.checked.program) plan.setup.placement layout
  pub shaped : IsShapeBy layout plan.setup.pace plan.setup.timing s
  pub bytes : List ℕ
  pub file : named schedule ≡ Some bytes
  pub reads : ReadAs s (length bytes) (rows_of bytes) events

-- Event i of a list, counted from 0, is the first that has an offence: none before it has one in the state to which the events before that one
-- lead from the start, and it has this one.
pub record IsFirstRefused (s : Shape) (t : Timing) (rows : ℕ) (events : List Event) (i : ℕ) (offence : Offence) : Type 0 where
  pub before : (j : ℕ) (e : Event) → j < i → slice_get events j ≡ Some e → offence_of s t (reached s t rows (take j events)) e ≡ None
  pub event : Event
  pub event_is : slice_get events i ≡ Some event
  pub offence_is : offence_of s t (reached s t rows (take i events)) event ≡ Some offence

-- such a run ended well
pub record IsRunShown (named : List ℕ → Option (List ℕ)) (program inputs schedule : List ℕ) (config : Option (List ℕ)) (old new : Objects) : Type 0 where
  -- `out` took the text of the outputs' cells, and `err` nothing
  pub printed : Outputs
  pub text : TookText (printed_text printed) old new
  pub run : IsRunAlong named program inputs schedule config new.fabric printed

-- a run of the large input for so many instants ended well
pub record IsBigShown (instants : ℕ) (old new : Objects) : Type 0 where
  -- the program, the setup and the rows of inputs that its texts are
  pub plan : Plan
  pub loaded : big_loaded_verdict instants (Ok plan)
  -- in which no node leads
  pub plain : plan.setup.pace ≡ Plain
  -- the nodes with their parts of the program, and the channels between them
  pub layout : Layout
  pub laid : IsLayoutOf (flat_of plan.checked.program) plan.setup.placement layout
  pub shape : Shape
  pub shaped : IsShapeBy layout plan.setup.pace plan.setup.timing shape
  -- the list that is drawn for it is no longer than a schedule may be
  pub few : length (events_of instants shape plan.setup.timing (length plan.inputs.rows)) ≤ 5000000
  -- `out` took how many cells the outputs have and the last of them, and `err` nothing
  pub printed : Outputs
  pub text : TookText (summarized_text instants printed) old new
  -- what the fabric holds and tells after the list, and what the nodes were given
  pub shows : OutputsShow plan.checked.program layout shape plan.setup.timing Plain plan.inputs.rows new.fabric (events_of instants shape plan.setup.timing (length plan.inputs.rows)) printed
  -- which ends at the horizon of so many instants
  pub at_horizon : shows.horizon ≡ horizon_of instants
  -- of each output, on its node, which has executed so many instants after the list, at least its bound for the horizon
  pub outputs : (y n x : ℕ) → y < length layout.outs → n < length layout.nodes → PartGives (part_of layout n) (slice_index_or layout.outs y 0) x →
      IsOutputShown plan.checked.program layout shape plan.inputs.rows new.fabric shows.told.run.lists.got
      (executed_of (reached shape plan.setup.timing (length plan.inputs.rows) (events_of instants shape plan.setup.timing (length plan.inputs.rows))) n) (bound_of plan.setup.timing n shows.horizon) y n x (slice_index_or printed.cells y [])
