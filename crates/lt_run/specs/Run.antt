-- A run of a program along a schedule: what is right of it, given the files' bytes and what the fabric holds at its end.
use Rattle.std.specs.Prelude.{◌≡◌, ℕ, IsTrue, List, length, Option, Result, Err, IfErr}
use Rattle.std.specs.Borrow.{Bor}
use Rattle.lt_base.specs.declared.value.Value.{Value}
use Rattle.lt_base.specs.Program.{WholeProgram}
use Rattle.lt_arch.specs.declared.shape.Shape.{Shape}
use Rattle.lt_arch.specs.declared.timing.Timing.{Timing}
use Rattle.lt_io.specs.FilesState.{FilesState}
use Rattle.lt_io.specs.FabricState.{FabricState, OpensOnce}
use Rattle.lt_place.specs.declared.layout.Layout.{Layout}
use Rattle.lt_place.specs.Layout.{IsLayoutOf}
use Rattle.lt_arch.specs.declared.pace.Pace.{Pace}
use Rattle.lt_lead.specs.Paced.{IsShapeBy}
use Rattle.lt_front.specs.Flattened.{flat_of}
use Rattle.lt_base.specs.declared.memory.Or.{Or}
use Rattle.lt_base.specs.declared.memory.Or.TheVariants.{Fault, Memory}
use Rattle.lt_answer.specs.World.{World, world}
use Rattle.lt_answer.specs.Alone.{given_word}
use Rattle.lt_answer.specs.Answered.{Answered, Verdict, AndThen}
use Rattle.lt_answer.specs.Rules.{Raised}
use Rattle.lt_schedule.specs.Errand.{schedule_errand}
use Rattle.lt_load_fit.specs.declared.fault.What.TheVariants.{ScheduleBytes}
use Rattle.lt_load_fit.specs.declared.fault.CommandFault.{CommandFault}
use Rattle.lt_load_fit.specs.declared.fault.CommandFault.TheVariants as fault
use Rattle.lt_load.specs.Blamed.{command_blame}
use Rattle.lt_load.specs.Plan.{Plan, LoadedPlan, load_verdict}
use Rattle.lt_evaluate.specs.declared.outputs.Outputs.{Outputs}
use Rattle.lt_run.specs.declared.fault.RunFault.{RunFault}
use Rattle.lt_run.specs.declared.fault.RunFault.TheVariants as run
use Rattle.lt_run.specs.Errands.{run_errands}
use Rattle.lt_run.specs.Fault.{run_blame, IsNearRun}
use Rattle.lt_run.specs.Kinds.{EventsBy, run_file_verdict}
use Rattle.lt_load.specs.Near.{ReadNear}
use Rattle.lt_run.specs.Printed.{ShowsAt, run_loaded_verdict}

-- a run's fault as a command's, beside the shape whose nodes it names
abbrev pub run_command_fault : Shape → RunFault → CommandFault
run_command_fault s (run.Row row f) = fault.Row row f
run_command_fault s (run.Offence event offence) = fault.Offence event offence s
run_command_fault s (run.Lossy event offence) = fault.Lossy event offence s
run_command_fault s run.Bytes = fault.Limit ScheduleBytes
run_command_fault s run.Read = fault.Read
run_command_fault s run.Link = fault.Link

-- a fault that names an event keeps a copy of the shape
abbrev pub KeepsShape : RunFault → Type 0
KeepsShape (run.Row row f) = ⊥
KeepsShape (run.Offence event offence) = Unit {0}
KeepsShape (run.Lossy event offence) = Unit {0}
KeepsShape run.Bytes = ⊥
KeepsShape run.Read = ⊥
KeepsShape run.Link = ⊥

-- a run's fault as the command's; memory may be wanting for a copy of the shape alone
abbrev pub AsCommand : Shape → Or RunFault → Or CommandFault → Type 0
AsCommand s (Fault f) (Fault g) = g ≡ run_command_fault s f
AsCommand s (Fault f) Memory = KeepsShape f
AsCommand s Memory (Fault g) = ⊥
AsCommand s Memory Memory = Unit {0}

-- what the outputs show of a run that ends at some horizon
pub record OutputsShow (p : WholeProgram) (l : Layout) (s : Shape) (t : Timing) (pace : Pace) (inputs : List (List Value)) (fabric : FabricState) (events : EventsBy pace) (outputs : Outputs) : Type 0 where
  pub horizon : ℕ
  pub told : ShowsAt p l s t pace inputs fabric events outputs.names outputs.cells horizon

-- a replay of a loaded program along the file of this name, by what its outputs show
pub record HasOutputs (k : LoadedPlan) (name : List ℕ) (files files' : FilesState) (fabric fabric' : FabricState) (result : Result Outputs (Or RunFault)) : Type 0 where
  pub answered : Answered run_blame (schedule_errand name) (run_loaded_verdict k (OutputsShow k.checked.program k.layout k.shape k.timing k.pace k.inputs.rows fabric') (files.named name)) (world files fabric) (world files' fabric') result
  -- a refused file was read to at most a piece past the row that is refused
  pub near : IsTrue files.told → IfErr result (IsNearRun (files.named name) files'.place)
  -- the fabric was opened at most once, and once where the file was taken
  pub opens : OpensOnce fabric fabric' result

-- a program on these nodes, under these bounds of time, by who paces the rounds, and on these rows of inputs, along a schedule file: what
-- the outputs show, or the first row or event that is refused
abbrev pub placed_run_verdict : WholeProgram → Layout → Shape → Timing → Pace → (inputs : List (List Value)) → FabricState → Option (List ℕ) → Verdict Outputs CommandFault
placed_run_verdict p l s t pace inputs fabric file = Raised (run_command_fault s) (run_file_verdict pace (OutputsShow p l s t pace inputs fabric) s t (length inputs) file)

-- the same of what was loaded
abbrev pub along_loaded : FabricState → LoadedPlan → Option (List ℕ) → Verdict Outputs CommandFault
along_loaded fabric k file = placed_run_verdict k.checked.program k.layout k.shape k.timing k.pace k.inputs.rows fabric file

-- a layout of the program's flat form under the setup's placement, with its channels by the setup's pace
pub record IsLaidOutBy (plan : Plan) (l : Layout) (s : Shape) : Type 0 where
  pub layout : IsLayoutOf (flat_of plan.checked.program) plan.setup.placement l
  pub shape : IsShapeBy l plan.setup.pace plan.setup.timing s

-- a plan along a schedule file, on its nodes
unfoldable pub run_along_verdict : FabricState → Option (List ℕ) → Plan → Verdict Outputs CommandFault
run_along_verdict fabric file plan outcome =
    (l : Layout) × (s : Shape) × IsLaidOutBy plan l s × placed_run_verdict plan.checked.program l s plan.setup.timing plan.setup.pace plan.inputs.rows fabric file outcome

-- the program, the setup, the placement, the timing, the inputs and the schedule, in this order
unfoldable pub ordered_verdict : (named : List ℕ → Option (List ℕ)) (program inputs schedule : List ℕ) (config : Option (List ℕ)) → FabricState → Verdict Outputs CommandFault
ordered_verdict named program inputs schedule config fabric = AndThen (load_verdict named program inputs config) (λ plan. run_along_verdict fabric (named schedule) plan)

-- and where it is the schedule that is refused, its file was read to at most a piece past the row that is refused
abbrev pub run_verdict : (named : List ℕ → Option (List ℕ)) (program inputs schedule : List ℕ) (config : Option (List ℕ)) → (new : World) → Verdict Outputs CommandFault
run_verdict named program inputs schedule config new = ReadNear (named schedule) new.files.place (ordered_verdict named program inputs schedule config new.fabric)

-- where the program, the setup or the inputs are refused, the fabric is as it was
abbrev pub LeavesUnloaded : (files : FilesState) (program inputs : List ℕ) (config : Option (List ℕ)) → (old new : FabricState) → Type 0
LeavesUnloaded files program inputs config old new = IsTrue files.told → (e : CommandFault) → load_verdict files.named program inputs config (Err e) → new ≡ old

-- what was loaded is run along the schedule file of this name
abbrev pub RunsLoaded : LoadedPlan → (schedule : List ℕ) (files files' : FilesState) (fabric fabric' : FabricState) → Result Outputs (Or CommandFault) → Type 0
RunsLoaded k schedule files files' fabric fabric' result =
    Answered command_blame (schedule_errand schedule) (along_loaded fabric' k (files.named schedule)) (world files fabric) (world files' fabric') result

-- the files of these names are run over a fabric. What the objects hold is read off them by these two functions
abbrev pub RunsFiles : {F W : Type 0} (files : F → FilesState) (fabric : W → FabricState) (program inputs schedule : List ℕ) (config : Option (Bor (List ℕ))) (before after : F) (old new : W) → Result Outputs (Or CommandFault) → Type 0
RunsFiles files fabric program inputs schedule config before after old new result =
    Answered command_blame (run_errands program inputs schedule (given_word config))
    (run_verdict (files before).named program inputs schedule (given_word config) (world (files after) (fabric new))) (world (files before) (fabric old)) (world (files after) (fabric new)) result
