-- The objects that a call of `ltta` is handed, at one moment.
use Rattle.std.specs.Prelude.{◌≡◌, IsTrue}
use Rattle.lt_io.specs.FilesState.{FilesState}
use Rattle.lt_io.specs.FabricState.{FabricState}
use Rattle.lt_io.specs.SinkState.{SinkState}
use Rattle.lt_answer.specs.World.{World, KeepsWorld}

pub record Objects : Type 0 where
  pub files : FilesState
  pub fabric : FabricState
  pub out : SinkState
  pub err : SinkState

abbrev pub objects : (files : FilesState) (fabric : FabricState) (out err : SinkState) → Objects
objects files fabric out err = record { files = files; fabric = fabric; out = out; err = err }

-- what these objects hold, as these functions read it off them
abbrev pub objects_of : {F W O E : Type 0} (files : F → FilesState) (fabric : W → FabricState) (out : O → SinkState) (err : E → SinkState) → F × W × O × E → Objects
objects_of files fabric out err (f, w, o, e) = objects (files f) (fabric w) (out o) (err e)

-- this is so of what such objects hold before and after a call, which ends so
abbrev pub Between : {F W O E S : Type 0} (files : F → FilesState) (fabric : W → FabricState) (out : O → SinkState) (err : E → SinkState) → (Objects → Objects → S → Type 0) → (old new : F × W × O × E) → S → Type 0
Between files fabric out err does old new ends = does (objects_of files fabric out err old) (objects_of files fabric out err new) ends

-- those from which a command reads
abbrev pub world_of : Objects → World
world_of o = record { files = o.files; fabric = o.fabric }

-- no count of faults rose
pub record IsQuiet (old new : Objects) : Type 0 where
  pub files : new.files.faults ≡ old.files.faults
  pub fabric : new.fabric.faults ≡ old.fabric.faults
  pub out : new.out.faults ≡ old.out.faults
  pub err : new.err.faults ≡ old.err.faults

-- no call fails but an `open` of a file that is missing
pub record AreSound (o : Objects) : Type 0 where
  pub files : IsTrue o.files.sound
  pub fabric : IsTrue o.fabric.sound
  pub out : IsTrue o.out.sound
  pub err : IsTrue o.err.sound

-- what no call changes of a sink: whether it is sound and tells what it took, and the count of a sound one
pub record KeepsSteady (old new : SinkState) : Type 0 where
  pub sound : new.sound ≡ old.sound
  pub told : new.told ≡ old.told
  pub steady : IsTrue old.sound → new.faults ≡ old.faults

-- what no call changes: the map of files, what each object tells and keeps, and the counts of those that are sound
pub record KeepsObjects (old new : Objects) : Type 0 where
  pub world : KeepsWorld (world_of old) (world_of new)
  pub out : KeepsSteady old.out new.out
  pub err : KeepsSteady old.err new.err
