-- Steps on files in memory.
use Rattle.std.proofs.Common.{◌≡◌, ℕ, List, Result, ◌∙◌, ap}
use Rattle.std.specs.Prelude.{codes}
use Rattle.lt_base.specs.declared.memory.Or.{Or}
use Rattle.lt_io.specs.Visits.{Errand}
use Rattle.lt_io.specs.FilesState.{FilesState}
use Rattle.lt_io.specs.MemFiles.{lookup}
use Rattle.lt_io.specs.declared.mem_files.MemFile.{MemFile}
use Rattle.lt_answer.specs.World.{alone}
use Rattle.lt_answer.specs.Answered.{Answered, Settles}
use Rattle.lt_answer.proofs.Stages.{renamed}
use Rattle.lt_load_fit.specs.declared.fault.CommandFault.{CommandFault}
use Rattle.lt_load.specs.Blamed.{command_blame}
use Rattle.lt_load.specs.Plan.{LoadedPlan, Loads}
use Rattle.lt_load.specs.Pacing.{plain_load_verdict}
use Rattle.lt_big.specs.Big.{files_of, named_of, big_loaded_verdict}
use Rattle.lt_big.specs.Stage.{FilesHold}
use Rattle.lt_big.proofs.Alone.{settles_held}
use Rattle.lt_big.proofs.Contents.{loaded_content}

-- what the files of so many instants are loaded as
pub loads_held : {es : List Errand} (instants : ℕ) (files : List MemFile) → files ≡ files_of instants → (a b : FilesState) → FilesHold files a → (r : Result LoadedPlan (Or CommandFault))
    → Answered command_blame es (Loads (plain_load_verdict a.named (codes "program") (codes "inputs") (codes "setup"))) (alone a) (alone b) r → Settles (Loads (big_loaded_verdict instants)) r
unfolding big_loaded_verdict
loads_held instants files is a b holds r answered =
    let same : a.named ≡ named_of instants = holds.named ∙ ap lookup is in
    settles_held (Loads (big_loaded_verdict instants)) (loaded_content instants) a b r holds.told holds.sound
    (renamed (λ names. Loads (plain_load_verdict names (codes "program") (codes "inputs") (codes "setup"))) a.named (named_of instants) (alone a) (alone b) r same answered)
