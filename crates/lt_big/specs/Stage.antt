-- The stages of a run of the large input.
use Rattle.std.specs.Prelude.{◌≡◌, ◌<◌, ℕ, Bool, IsTrue, List, [], length, Result}
use Rattle.lt_base.specs.declared.memory.Or.{Or}
use Rattle.lt_io.specs.FilesState.{FilesState}
use Rattle.lt_io.specs.FabricState.{FabricState}
use Rattle.lt_io.specs.MemFiles.{lookup}
use Rattle.lt_io.specs.declared.mem_files.MemFile.{MemFile}
use Rattle.lt_rows.specs.Limits.{most_events}
use Rattle.lt_answer.specs.Answered.{Answered, Verdict}
use Rattle.lt_answer.specs.World.{world}
use Rattle.lt_load_fit.specs.declared.fault.CommandFault.{CommandFault}
use Rattle.lt_load.specs.Blamed.{command_blame}
use Rattle.lt_load.specs.Plan.{LoadedPlan}
use Rattle.lt_evaluate.specs.declared.outputs.Outputs.{Outputs}
use Rattle.lt_sim.specs.Recorded.{IsWithinMost}
use Rattle.lt_big.specs.Big.{events_of, played_verdict}

-- files that tell these bytes, and of which only a missing one fails
pub record FilesHold (files : List MemFile) (s : FilesState) : Type 0 where
  pub named : s.named ≡ lookup files
  pub told : IsTrue s.told
  pub sound : IsTrue s.sound
  pub unfailed : s.faults ≡ 0

-- a step that needs a fabric and none of whatever files there are
abbrev pub AnsweredAlone : {T : Type 0} → Verdict T CommandFault → (old new : FabricState) → Result T (Or CommandFault) → Type 0
AnsweredAlone V old new result = (files : FilesState) → Answered command_blame [] V (world files old) (world files new) result

-- whether the list that is drawn for what was loaded is within the limit
abbrev pub TellsFew : (instants : ℕ) → LoadedPlan → Bool → Type 0
TellsFew instants k few = IsWithinMost (length (events_of instants k.shape k.timing (length k.inputs.rows))) few

-- what was loaded, along the list
abbrev pub along_list : (instants : ℕ) → FabricState → LoadedPlan → Verdict Outputs CommandFault
along_list instants fabric k = played_verdict instants fabric k.checked.program k.layout k.shape k.timing k.inputs.rows

-- where the list has too many events, the fabric is as it was
abbrev pub LeavesUndrawn : (instants : ℕ) → LoadedPlan → (old new : FabricState) → Type 0
LeavesUndrawn instants k old new = most_events < length (events_of instants k.shape k.timing (length k.inputs.rows)) → new ≡ old
