-- What a replay by step code answers, and whose code its machines step.
use Rattle.std.specs.Prelude.{◌≡◌, ℕ, List, IsTrue, Some, length, slice_get, Result, IfOk, IfErr}
use Rattle.lt_base.specs.declared.value.Value.{Value}
use Rattle.lt_base.specs.declared.memory.Or.{Or}
use Rattle.lt_base.specs.Program.{WholeProgram}
use Rattle.lt_arch.specs.declared.pace.Pace.{Pace}
use Rattle.lt_arch.specs.declared.shape.Shape.{Shape}
use Rattle.lt_arch.specs.declared.timing.Timing.{Timing}
use Rattle.lt_io.specs.FilesState.{FilesState}
use Rattle.lt_io.specs.FabricState.{FabricState, OpensOnce}
use Rattle.lt_place.specs.declared.layout.Layout.{Layout}
use Rattle.lt_place.specs.Layout.{part_of}
use Rattle.lt_step.specs.Compile.{CodeOf}
use Rattle.lt_machine.specs.declared.machine.Machine.{Ghosts as Machines}
use Rattle.lt_machine.specs.declared.step_machine.StepMachine.{StepMachine}
use Rattle.lt_answer.specs.Answered.{Answered}
use Rattle.lt_answer.specs.World.{world}
use Rattle.lt_schedule.specs.Errand.{schedule_errand}
use Rattle.lt_load.specs.Plan.{LoadedPlan}
use Rattle.lt_run.specs.declared.fault.RunFault.{RunFault}
use Rattle.lt_run.specs.declared.printed.Printed.{Printed}
use Rattle.lt_run.specs.Fault.{run_blame, IsNearRun}
use Rattle.lt_run.specs.Kinds.{EventsBy, HasStepsBy, executed_by}
use Rattle.lt_run.specs.Printed.{HasPrintedBy, ShowsAt}

-- there is a machine for each node of a layout, which steps the code of the node's part
pub record StepsCode {G : Type 0} (l : Layout) (executed : ℕ → ℕ) (machines : List (StepMachine G)) : Type 0 where
  pub count : length machines ≡ length l.nodes
  pub code : (n : ℕ) (m : StepMachine G) → slice_get machines n ≡ Some m → CodeOf (part_of l n).flat.func m.code
  -- it has made a step for each instant that the node has executed
  pub made : (n : ℕ) (m : StepMachine G) → slice_get machines n ≡ Some m → m.made ≡ executed n

-- what a replay by step code answers shows a run along these events
pub record CodeShows {G : Type 0} (mch : Machines (StepMachine G)) (p : WholeProgram) (l : Layout) (s : Shape) (t : Timing) (pace : Pace) (inputs : List (List Value)) (fabric : FabricState) (events : EventsBy pace) (printed : Printed (StepMachine G)) : Type 0 where
  pub shows : ShowsAt p l s t pace inputs fabric events printed.names printed.cells printed.horizon
  -- its machines made the steps
  pub steps : HasStepsBy mch pace l s t inputs events shows.got printed.machines
  -- and these were steps of the code of the nodes' parts
  pub steps_code : StepsCode l (executed_by pace s t (length inputs) events) printed.machines

-- a replay of a loaded program along the file of this name, by step code
abbrev pub HasCodePrinted : {G : Type 0} (mch : Machines (StepMachine G)) (k : LoadedPlan) (name : List ℕ) (files files' : FilesState) (fabric fabric' : FabricState) → Result (Printed (StepMachine G)) (Or RunFault) → Type 0
HasCodePrinted mch k name files files' fabric fabric' result =
    HasPrintedBy k (CodeShows mch k.checked.program k.layout k.shape k.timing k.pace k.inputs.rows fabric') name files files' fabric fabric' result

-- what was loaded is replayed by step code along the file of this name. What the objects hold is read off them by these two functions
abbrev pub ReplaysCode : {F W G : Type 0} (files : F → FilesState) (fabric : W → FabricState) (mch : Machines (StepMachine G)) → LoadedPlan → (schedule : List ℕ) (before after : F) (old new : W) → Result (Printed (StepMachine G)) (Or RunFault) → Type 0
ReplaysCode files fabric mch k schedule before after old new result = HasCodePrinted mch k schedule (files before) (files after) (fabric old) (fabric new) result
