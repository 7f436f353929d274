-- What a refusal is, and what stands after a fault that stopped a net.
use Rattle.std.specs.Prelude.{◌≡◌, ◌≢◌, ◌⊎◌, ℕ, ◌<◌, List, [], Option, Some, None, Result, Ok, Err}
use Rattle.lt_base.specs.declared.value.Value.{Value}
use Rattle.lt_arch.specs.declared.event.Event.TheVariants.{Act, Del, End}
use Rattle.lt_arch.specs.declared.shape.Shape.{Shape}
use Rattle.lt_arch.specs.Readers.{chan_count, from_of}
use Rattle.lt_io.specs.FabricState.{FabricState}
use Rattle.lt_lossy.specs.declared.event.LossyEvent.{LossyEvent}
use Rattle.lt_lossy.specs.declared.event.LossyEvent.TheVariants.{Plain, Lose}
use Rattle.lt_net_bench.specs.Changes.{GrowsByRow, NoListChanged}
use Rattle.lt_net_bench.specs.Standing.{HasRun}
use Rattle.lt_net_lossy.specs.declared.fault.LossyFault.{LossyFault}
use Rattle.lt_net_lossy.specs.declared.fault.LossyFault.TheVariants.{Offence as Refused, Link, Memory as NoMemory, Stopped}
use Rattle.lt_net_lossy.specs.Net.{LossyBenchState, LossyLists}
use Rattle.lt_machine.specs.declared.machine.Machine.{Ghosts as Machines}

-- the net and the fabric are as they were
abbrev pub RefusedLossy : LossyFault → Type 0
RefusedLossy (Refused o) = Unit {0}
RefusedLossy Link = ⊥
RefusedLossy NoMemory = ⊥
RefusedLossy (Stopped f) = Unit {0}

-- the answer is a refusal
abbrev pub RefusesLossy : {T : Type 0} → Result T LossyFault → Type 0
RefusesLossy (Ok x) = ⊥
RefusesLossy (Err f) = RefusedLossy f

-- the fault stops the net
abbrev pub HaltsByLossy : LossyFault → Type 0
HaltsByLossy (Refused o) = ⊥
HaltsByLossy Link = Unit {0}
HaltsByLossy NoMemory = Unit {0}
HaltsByLossy (Stopped f) = ⊥

-- the answer is a fault that stops the net
abbrev pub HaltsLossy : {T : Type 0} → Result T LossyFault → Type 0
HaltsLossy (Ok x) = ⊥
HaltsLossy (Err f) = HaltsByLossy f

-- the rows are as they were, or those of the acting node have its instant's row at their end
abbrev pub MayTakeLossy : LossyEvent → Option (List Value) → (old new : ℕ → List (List Value)) → Type 0
MayTakeLossy (Plain (Act n at)) (Some row) old new = NoListChanged old new ⊎ GrowsByRow old new n row
MayTakeLossy (Plain (Act n at)) None old new = NoListChanged old new
MayTakeLossy (Plain (Del c at)) row old new = NoListChanged old new
MayTakeLossy (Plain (End at)) row old new = NoListChanged old new
MayTakeLossy (Lose c at) row old new = NoListChanged old new

-- machines, counts and cells are those of the lists for which the net stood before an event, or with the row of the acting node
pub record HasHaltedLossy {C M : Type 0} (mch : Machines M) (net : LossyBenchState C M) (ls : LossyLists) (e : LossyEvent) (row : Option (List Value)) : Type 0 where
  pub rows : ℕ → List (List Value)
  pub may_take : MayTakeLossy e row ls.inputs rows
  pub ran : HasRun mch net.layout net.shape net.machines net.executed net.tracks rows ls.got

-- node n sends on a channel that has something in transit
abbrev pub SendsBehind : Shape → (n : ℕ) → FabricState → Type 0
SendsBehind s n fabric = (c : ℕ) × (c < chan_count s) × (fabric.transit c ≢ []) × (from_of s c ≡ n)

-- over a prompt fabric memory is wanted only by an activation whose node sends on a channel that has something in transit
abbrev pub WantsRoom : Shape → LossyEvent → FabricState → Type 0
WantsRoom s (Plain (Act n at)) fabric = SendsBehind s n fabric
WantsRoom s (Plain (Del c at)) fabric = ⊥
WantsRoom s (Plain (End at)) fabric = ⊥
WantsRoom s (Lose c at) fabric = ⊥
