-- The machines of the nodes, before the first event.
use Rattle.std.specs.Prelude.{◌≡◌, ℕ, ◌<◌, ◌≤◌, List, [], length, Some, slice_get}
use Rattle.lt_base.specs.declared.value.Value.{Value}
use Rattle.lt_base.specs.Program.{Function}
use Rattle.lt_place.specs.declared.layout.Layout.{Layout}
use Rattle.lt_place.specs.Layout.{part_of}
use Rattle.lt_place.specs.Sizes.{IsCompilable}
use Rattle.lt_machine.specs.declared.machine.Machine.{Ghosts as Machines}

-- the machine runs this function, has made no step, and has one left for each row
pub record MachineIsReady {M : Type 0} (mch : Machines M) (f : Function) (rows : ℕ) (m : M) : Type 0 where
  pub stand : mch.stands m f []
  pub unmade : mch.made m ≡ 0
  pub enough : rows ≤ mch.left m

-- the machines of the first nodes
abbrev pub AreReadySoFar : {M : Type 0} (mch : Machines M) → Layout → (rows : ℕ) → List M → Type 0
AreReadySoFar {M} mch l rows ms = (n : ℕ) (m : M) → slice_get ms n ≡ Some m → MachineIsReady mch (part_of l n).flat.func rows m

-- every part compiles
abbrev pub AreCompilable : Layout → Type 0
AreCompilable l = (n : ℕ) → n < length l.nodes → IsCompilable (part_of l n).flat.func
