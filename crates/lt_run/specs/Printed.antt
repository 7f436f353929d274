-- What a run along a schedule comes to, in the words of its program.
use Rattle.std.specs.Prelude.{◌≡◌, ℕ, ◌<◌, ◌≤◌, min, IsTrue, List, [], length, take, Option, Some, Result, IfOk, IfErr, slice_index_or}
use Rattle.lt_base.specs.declared.value.Value.{Value}
use Rattle.lt_base.specs.declared.value.Cell.{Cell}
use Rattle.lt_base.specs.declared.memory.Or.{Or}
use Rattle.lt_base.specs.Inputs.{InputTable}
use Rattle.lt_base.specs.Program.{Function, WholeProgram}
use Rattle.lt_arch.specs.declared.shape.Shape.{Shape}
use Rattle.lt_arch.specs.declared.timing.Timing.{Timing}
use Rattle.lt_arch.specs.Readers.{node_count}
use Rattle.lt_io.specs.FilesState.{FilesState}
use Rattle.lt_io.specs.FabricState.{FabricState, OpensOnce}
use Rattle.lt_place.specs.declared.layout.Layout.{Layout}
use Rattle.lt_place.specs.Layout.{PartGives, part_of}
use Rattle.lt_arch.specs.declared.pace.Pace.{Pace}
use Rattle.lt_lead.specs.Paced.{bound_by}
use Rattle.lt_net_node.specs.Local.{local_stream}
use Rattle.lt_net_node.specs.Payloads.{payloads_between, row_at}
use Rattle.lt_answer.specs.Answered.{Answered, Verdict}
use Rattle.lt_answer.specs.World.{world}
use Rattle.lt_schedule.specs.Errand.{schedule_errand}
use Rattle.lt_net_start.specs.declared.plan.NetPlan.{NetPlan}
use Rattle.lt_net.specs.declared.replayed.Replayed.{Replayed}
use Rattle.lt_front.specs.Checked.{CheckedText}
use Rattle.lt_front.specs.Flattened.{flat_of}
use Rattle.lt_load_fit.specs.Main.{main_in}
use Rattle.lt_load.specs.Plan.{LoadedPlan}
use Rattle.lt_evaluate.specs.Main.{output_names, output_streams}
use Rattle.lt_run.specs.declared.fault.RunFault.{RunFault}
use Rattle.lt_run.specs.declared.printed.Printed.{Printed}
use Rattle.lt_run.specs.Fault.{run_blame, IsNearRun}
use Rattle.lt_run.specs.Kinds.{EventsBy, executed_by, IsRunBy, ExactBy, CrossesBy, got_by, HasStepsBy, run_file_verdict}
use Rattle.lt_machine.specs.declared.machine.Machine.{Ghosts as Machines}

-- what outputs of these names and cells show, where each node has executed so many instants, each channel has delivered these payloads
-- and the protocol promises at least so many instants
pub record AreShown (p : WholeProgram) (l : Layout) (s : Shape) (inputs : List (List Value)) (fabric : FabricState) (executed : ℕ → ℕ) (got : ℕ → List (List Value)) (least : ℕ → ℕ) (names : List (List ℕ)) (cells : List (List Cell)) : Type 0 where
  -- the program's outputs by name, in order, and a column for each
  pub names_are : names ≡ output_names p
  pub outputs_are : l.outs ≡ (main_in p).outs
  pub columns : length cells ≡ length l.outs
  -- each output is on a node
  pub home : (y : ℕ) → y < length l.outs → (n : ℕ) × (n < length l.nodes) × (x : ℕ) × PartGives (part_of l n) (slice_index_or l.outs y 0) x
  -- its cells are the stream of the node's part on what was delivered to it, one for each instant that the node has executed
  pub local : (y n x : ℕ) → y < length l.outs → n < length l.nodes → PartGives (part_of l n) (slice_index_or l.outs y 0) x →
      slice_index_or cells y [] ≡ local_stream l (payloads_between s got) n (row_at inputs) (executed n) x
  -- over a faithful fabric they are the first of its stream in the whole program
  pub whole : IsTrue fabric.faithful → (y n x : ℕ) → y < length l.outs → n < length l.nodes → PartGives (part_of l n) (slice_index_or l.outs y 0) x →
      slice_index_or cells y [] ≡ take (executed n) (slice_index_or (output_streams p inputs) y [])
  -- each node has executed as many instants as are promised, or one for each row of inputs
  pub enough : (n : ℕ) → n < node_count s → min (least n) (length inputs) ≤ executed n

-- what outputs of these names and cells show of a run along these events
pub record ShowsAt (p : WholeProgram) (l : Layout) (s : Shape) (t : Timing) (pace : Pace) (inputs : List (List Value)) (fabric : FabricState) (events : EventsBy pace) (names : List (List ℕ)) (cells : List (List Cell)) (horizon : ℕ) : Type 0 where
  -- the schedule is within the bounds; the cells are what each node's part gives on what was delivered to it; and the fabric holds and
  -- tells what was sent
  pub run : IsRunBy pace l s t inputs fabric events cells horizon
  -- the payloads that were delivered on each channel
  pub got : (c : ℕ) → List (List Value)
  pub got_is : got ≡ got_by pace l s t inputs fabric events cells horizon run
  -- so with these, with the instants that each node has executed after the events, and with its bound for the horizon
  pub shown : AreShown p l s inputs fabric (executed_by pace s t (length inputs) events) got (λ n. bound_by pace t n horizon) names cells
  -- under the time-based protocol each instant is executed on exactly the messages before it
  pub exact : ExactBy pace s t (length inputs) events
  -- over a faithful fabric message k + 1 of a channel of values, delivered or in transit, has entry k of each variable that crosses there, in the
  -- program's flat form
  pub crosses : IsTrue fabric.faithful → CrossesBy pace (flat_of p).func l s t inputs fabric events cells horizon run

-- the cells and the machines are those to which these events lead
pub record IsReplayBy {M : Type 0} (mch : Machines M) (pace : Pace) (l : Layout) (s : Shape) (t : Timing) (inputs : List (List Value)) (fabric : FabricState) (events : EventsBy pace) (taken : Replayed M) : Type 0 where
  pub run : IsRunBy pace l s t inputs fabric events taken.cells taken.horizon
  pub steps : HasStepsBy mch pace l s t inputs events (got_by pace l s t inputs fabric events taken.cells taken.horizon run) taken.machines

-- so does what a replay answers, and its machines made the steps
pub record ReplayShows {M : Type 0} (mch : Machines M) (p : WholeProgram) (l : Layout) (s : Shape) (t : Timing) (pace : Pace) (inputs : List (List Value)) (fabric : FabricState) (events : EventsBy pace) (printed : Printed M) : Type 0 where
  pub shows : ShowsAt p l s t pace inputs fabric events printed.names printed.cells printed.horizon
  pub steps : HasStepsBy mch pace l s t inputs events shows.got printed.machines

-- what is right of a schedule file along which a loaded program is run
abbrev pub run_loaded_verdict : {T : Type 0} (k : LoadedPlan) (end : EventsBy k.pace → T → Type 0) → (schedule : Option (List ℕ)) → Verdict T RunFault
run_loaded_verdict k end file = run_file_verdict k.pace end k.shape k.timing (length k.inputs.rows) file

-- a network took the file of this name to its end, or a fault stands against it
pub record HasTaken {M : Type 0} (mch : Machines M) (pace : Pace) (l : Layout) (s : Shape) (t : Timing) (inputs : List (List Value))
    (name : List ℕ) (files files' : FilesState) (fabric fabric' : FabricState) (result : Result (Replayed M) (Or RunFault)) : Type 0 where
  -- by the verdict of the file
  pub answered : Answered run_blame (schedule_errand name) (run_file_verdict pace (IsReplayBy mch pace l s t inputs fabric') s t (length inputs) (files.named name)) (world files fabric) (world files' fabric') result
  -- whether or not the files tell their bytes
  pub ended : IfOk result (λ taken. (events : EventsBy pace) × IsReplayBy mch pace l s t inputs fabric' events taken)
  -- a refused file was read to at most a piece past the row that is refused
  pub near : IsTrue files.told → IfErr result (IsNearRun (files.named name) files'.place)
  -- the fabric was opened at most once, and once where the file was taken
  pub opens : OpensOnce fabric fabric' result
  -- the layout is given back
  pub layout : IfOk result (λ taken. taken.layout ≡ l)

-- a replay of a loaded program along the file of this name, of which this holds at the end of the file's events
pub record HasPrintedBy {M : Type 0} (k : LoadedPlan) (end : EventsBy k.pace → Printed M → Type 0) (name : List ℕ) (files files' : FilesState) (fabric fabric' : FabricState) (result : Result (Printed M) (Or RunFault)) : Type 0 where
  pub answered : Answered run_blame (schedule_errand name) (run_loaded_verdict k end (files.named name)) (world files fabric) (world files' fabric') result
  -- whether or not the files tell their bytes
  pub ended : IfOk result (λ printed. (events : EventsBy k.pace) × end events printed)
  -- a refused file was read to at most a piece past the row that is refused
  pub near : IsTrue files.told → IfErr result (IsNearRun (files.named name) files'.place)
  -- the fabric was opened at most once, and once where the file was taken
  pub opens : OpensOnce fabric fabric' result
  -- the layout of what was loaded is given back
  pub layout : IfOk result (λ printed. printed.layout ≡ k.layout)

-- by machines of any kind
abbrev pub HasPrinted : {M : Type 0} (mch : Machines M) (k : LoadedPlan) (name : List ℕ) (files files' : FilesState) (fabric fabric' : FabricState) → Result (Printed M) (Or RunFault) → Type 0
HasPrinted mch k name files files' fabric fabric' result =
    HasPrintedBy k (ReplayShows mch k.checked.program k.layout k.shape k.timing k.pace k.inputs.rows fabric') name files files' fabric fabric' result

-- a program with its nodes, their channels and bounds of time, and rows of inputs
abbrev pub set_up : CheckedText → Pace → NetPlan → InputTable → LoadedPlan
set_up checked pace setup inputs = record { checked = checked; layout = setup.layout; shape = setup.shape; timing = setup.timing; inputs = inputs; pace = pace }

-- what the objects hold is read off them by these two functions

-- a network of these nodes took the file of this name to its end, or a fault stands against it
abbrev pub TakesSchedule : {F W M : Type 0} (files : F → FilesState) (fabric : W → FabricState) (mch : Machines M) (pace : Pace) → NetPlan → InputTable → (schedule : List ℕ) (before after : F) (old new : W) → Result (Replayed M) (Or RunFault) → Type 0
TakesSchedule files fabric mch pace setup inputs schedule before after old new result =
    HasTaken mch pace setup.layout setup.shape setup.timing inputs.rows schedule (files before) (files after) (fabric old) (fabric new) result

-- what was loaded is replayed along the file of this name
abbrev pub ReplaysLoaded : {F W M : Type 0} (files : F → FilesState) (fabric : W → FabricState) (mch : Machines M) → LoadedPlan → (schedule : List ℕ) (before after : F) (old new : W) → Result (Printed M) (Or RunFault) → Type 0
ReplaysLoaded files fabric mch k schedule before after old new result = HasPrinted mch k schedule (files before) (files after) (fabric old) (fabric new) result
