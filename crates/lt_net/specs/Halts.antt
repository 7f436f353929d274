-- What stands after a fault that stopped a net.
use Rattle.std.specs.Prelude.{◌⊎◌, ℕ, List, Option, Some, None, Result, Ok, Err}
use Rattle.lt_base.specs.declared.value.Value.{Value}
use Rattle.lt_arch.specs.declared.event.Event.{Event}
use Rattle.lt_arch.specs.declared.event.Event.TheVariants.{Act, Del, End}
use Rattle.lt_io.specs.declared.fault.LinkErr.{LinkErr}
use Rattle.lt_io.specs.declared.fault.LinkErr.TheVariants as link
use Rattle.lt_net.specs.declared.fault.First.{First}
use Rattle.lt_net.specs.declared.fault.First.TheVariants as first
use Rattle.lt_net.specs.declared.fault.NetFault.{NetFault}
use Rattle.lt_net.specs.declared.fault.NetFault.TheVariants.{Offence as Refused, Link, Memory as NoMemory, Stopped}
use Rattle.lt_net.specs.Net.{TimedBenchState, Lists}
use Rattle.lt_net_bench.specs.Changes.{GrowsByRow, NoListChanged}
use Rattle.lt_net_bench.specs.Standing.{HasRun}
use Rattle.lt_machine.specs.declared.machine.Machine.{Ghosts as Machines}

-- the fault stops the net
abbrev pub HaltsBy : NetFault → Type 0
HaltsBy (Refused o) = ⊥
HaltsBy Link = Unit {0}
HaltsBy NoMemory = Unit {0}
HaltsBy (Stopped f) = ⊥

-- the answer is a fault that stops the net
abbrev pub Halts : {T : Type 0} → Result T NetFault → Type 0
Halts (Ok x) = ⊥
Halts (Err f) = HaltsBy f

-- the rows are as they were, or those of the acting node have its instant's row at their end
abbrev pub MayTake : Event → Option (List Value) → (old new : ℕ → List (List Value)) → Type 0
MayTake (Act n at) (Some row) old new = NoListChanged old new ⊎ GrowsByRow old new n row
MayTake (Act n at) None old new = NoListChanged old new
MayTake (Del c at) row old new = NoListChanged old new
MayTake (End at) row old new = NoListChanged old new

-- machines, counts and cells are those of the lists for which the net stood before an event, or with the row of the acting node
pub record HasHalted {C M : Type 0} (mch : Machines M) (net : TimedBenchState C M) (ls : Lists) (e : Event) (row : Option (List Value)) : Type 0 where
  pub rows : ℕ → List (List Value)
  pub may_take : MayTake e row ls.inputs rows
  pub ran : HasRun mch net.layout net.shape net.machines net.executed net.tracks rows ls.got

-- a failed call on the fabric stops a net
abbrev pub first_failure : LinkErr → First
first_failure link.Failed = first.Link
first_failure link.Memory = first.Memory

abbrev pub net_fault_of : LinkErr → NetFault
net_fault_of link.Failed = Link
net_fault_of link.Memory = NoMemory

-- why a net stands still after an answer of its bench, and what it answers
abbrev pub stopped_by : Result (Unit {0}) LinkErr → Option First → Option First
stopped_by (Ok x) before = before
stopped_by (Err e) before = Some (first_failure e)

abbrev pub answer_by : Result (Unit {0}) LinkErr → Result (Unit {0}) NetFault
answer_by (Ok x) = Ok x
answer_by (Err e) = Err (net_fault_of e)
