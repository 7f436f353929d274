-- What the steps of an audit and of a trace answer over their files.
use Rattle.std.specs.Prelude.{◌≡◌, ℕ, List, ◌++◌, Option, Some, Result}
use Rattle.lt_base.specs.declared.memory.Or.{Or}
use Rattle.lt_io.specs.FilesState.{FilesState}
use Rattle.lt_arch.specs.declared.event.Event.{Event}
use Rattle.lt_answer.specs.Rules.{Raised}
use Rattle.lt_schedule.specs.Errand.{schedule_errand}
use Rattle.lt_config.specs.declared.config.Config.{Config}
use Rattle.lt_front.specs.Examined.{ExaminedText}
use Rattle.lt_load_fit.specs.declared.fault.CommandFault.{CommandFault}
use Rattle.lt_load.specs.Errands.{config_errand, inputs_errand, load_errands}
use Rattle.lt_load.specs.OnFiles.{OnFiles}
use Rattle.lt_inspect.specs.declared.audited.Audited.{Audited}
use Rattle.lt_inspect.specs.declared.inspection.Inspection.{Inspection}
use Rattle.lt_inspect.specs.declared.scene.Scene.{Scene}
use Rattle.lt_inspect.specs.declared.setups.Setups.{Setups}
use Rattle.lt_inspect.specs.declared.stage.Stage.{Stage}
use Rattle.lt_inspect.specs.Errands.{inspect_errands}
use Rattle.lt_inspect.specs.Scenes.{Scened, placed_plan_verdict, scene_verdict}
use Rattle.lt_inspect.specs.Stages.{Staged, setup_stage_verdict, stage_verdict}
use Rattle.lt_inspect.specs.Inspected.{along_scene, audit_verdict, inspect_file_verdict, schedule_command_fault, trace_verdict}
use Rattle.lt_inspect.specs.Taking.{HasInspected}

-- what a schedule is judged over
abbrev pub LoadsScene : (program inputs config : List ℕ) (node : Option (List ℕ)) (old new : FilesState) → Result Scene (Or CommandFault) → Type 0
LoadsScene program inputs config node old new result = OnFiles (load_errands program inputs (Some config)) (Scened node (scene_verdict old.named program inputs config node)) old new result

-- the same by any setup that is taken, with its pace
abbrev pub LoadsStage : Setups → (program inputs config : List ℕ) (node : Option (List ℕ)) (old new : FilesState) → Result Stage (Or CommandFault) → Type 0
LoadsStage taken program inputs config node old new result =
    OnFiles (load_errands program inputs (Some config)) (Staged node (stage_verdict taken old.named program inputs config node)) old new result

-- that from the setup on
abbrev pub LoadsSetupStage : Setups → (inputs config : List ℕ) (node : Option (List ℕ)) → ExaminedText → (old new : FilesState) → Result Stage (Or CommandFault) → Type 0
LoadsSetupStage taken inputs config node checked old new result =
    OnFiles (config_errand config ++ inputs_errand inputs) (Staged node (setup_stage_verdict taken old.named inputs config node checked)) old new result

-- and behind the setup
abbrev pub LoadsPlacedStage : (inputs : List ℕ) (node : Option (List ℕ)) → ExaminedText → Config → (old new : FilesState) → Result Stage (Or CommandFault) → Type 0
LoadsPlacedStage inputs node checked setup old new result = OnFiles (inputs_errand inputs) (Staged node (placed_plan_verdict old.named inputs node checked setup)) old new result

-- what was loaded is judged along the schedule file of this name, of whose events this is told
abbrev pub JudgesSchedule : {T : Type 0} (end : List Event → T → Type 0) → Scene → (schedule : List ℕ) (old new : FilesState) → Result T (Or CommandFault) → Type 0
JudgesSchedule end k schedule old new result = OnFiles (schedule_errand schedule) (along_scene end k (old.named schedule)) old new result

-- an inspection takes the schedule file of this name
abbrev pub InspectsSchedule : {X : Type 0} {call : _} → (before after : Inspection X call) (schedule : List ℕ) (old new : FilesState) → Result (Unit {0}) (Or CommandFault) → Type 0
InspectsSchedule before after schedule old new result =
    OnFiles (schedule_errand schedule)
    (Raised (schedule_command_fault before.auditor.shape) (inspect_file_verdict (λ events done. HasInspected after events) before.auditor.shape before.auditor.watch.timing before.auditor.rows (old.named schedule))) old new result

-- its auditor is over these nodes, channels and bounds of time, and as many rows
pub record IsInspectionOver {X : Type 0} {call : _} (i : Inspection X call) (k : Scene) : Type 0 where
  pub shape : i.auditor.shape ≡ k.shape
  pub timing : i.auditor.watch.timing ≡ k.timing
  pub rows : i.auditor.rows ≡ k.rows

-- an audit of the files of these names
abbrev pub AuditsFiles : (program inputs schedule config : List ℕ) (old new : FilesState) → Result Audited (Or CommandFault) → Type 0
AuditsFiles program inputs schedule config old new result = OnFiles (inspect_errands program inputs schedule config) (audit_verdict old.named program inputs schedule config new) old new result

-- a trace of the files of these names
abbrev pub TracesFiles : (program inputs schedule config : List ℕ) (node : Option (List ℕ)) (from to : ℕ) (old new : FilesState) → Result (List ℕ) (Or CommandFault) → Type 0
TracesFiles program inputs schedule config node from to old new result =
    OnFiles (inspect_errands program inputs schedule config) (trace_verdict old.named program inputs schedule config node from to new) old new result
