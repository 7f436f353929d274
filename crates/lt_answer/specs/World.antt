-- The files and the fabric that a call is handed, and how their counts of faults move.
use Rattle.std.specs.Prelude.{◌≡◌, ◌<◌, true, false, IsTrue, []}
use Rattle.lt_io.specs.FilesState.{FilesState, KeepsNames}
use Rattle.lt_io.specs.FabricState.{FabricState, KeepsPromises}

pub record World : Type 0 where
  pub files : FilesState
  pub fabric : FabricState

-- these files and this fabric
abbrev pub world : FilesState → FabricState → World
world files fabric = record { files = files; fabric = fabric }

-- what no call changes
pub record KeepsWorld (old new : World) : Type 0 where
  pub files : KeepsNames old.files new.files
  pub fabric : KeepsPromises old.fabric new.fabric
  -- the count of a sound fabric
  pub steady : IsTrue old.fabric.sound → new.fabric.faults ≡ old.fabric.faults

-- neither count rose
pub record IsCalm (old new : World) : Type 0 where
  pub files : new.files.faults ≡ old.files.faults
  pub fabric : new.fabric.faults ≡ old.fabric.faults

-- whose fault a refusal is: that of what was read, of a call on the files, or of a call on the fabric
pub data Blame : Type 0 where
  Content : Blame
  Reading : Blame
  Linking : Blame

-- the count of the one to blame rose, and the others stayed
abbrev pub Blames : World → World → Blame → Type 0
Blames old new Content = IsCalm old new
Blames old new Reading = (old.files.faults < new.files.faults) × (new.fabric.faults ≡ old.fabric.faults)
Blames old new Linking = (new.files.faults ≡ old.files.faults) × (old.fabric.faults < new.fabric.faults)

-- no fabric at all
abbrev no_fabric : FabricState
no_fabric = record {
  faithful = true;
  prompt = true;
  sound = true;
  told = false;
  kinds = [];
  transit = λ _. [];
  sent = λ _. [];
  delivered = λ _. [];
  opens = 0;
  faults = 0;
}

-- files without a fabric, as a step sees them that needs none
abbrev pub alone : FilesState → World
alone files = record { files = files; fabric = no_fabric }
