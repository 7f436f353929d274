-- Emitted nodes beside the network that replays the same events.
use Rattle.std.specs.Prelude.{◌≡◌, ℕ, List, [], IsTrue, slice_index_or}
use Rattle.std.specs.List.{AllByRecursion}
use Rattle.lt_base.specs.declared.value.Cell.{Cell}
use Rattle.lt_io.specs.FabricState.{FabricState}
use Rattle.lt_lossy.specs.declared.event.LossyEvent.{LossyEvent}
use Rattle.lt_lossy.specs.Events.{IsLossyEventOf}
use Rattle.lt_norm.specs.Flat.{Originated}
use Rattle.lt_net_lossy.specs.LossyRun.{IsLossyRun}
use Rattle.lt_c.specs.Meaning.{Store}
use Rattle.lt_c_net.specs.WholeRuns.{GivesOutput}
use Rattle.lt_c_lossy.specs.LosingRuns.{LosingDeployment, losing_run}
use Rattle.lt_c_lossy.specs.LosingWholeRuns.{IsDeployedLosing}

-- where a network ran along these events, over a fabric that hands over what was sent, emitted nodes show the cells that it has of each output
abbrev pub LosingShowsRun : Type 0
LosingShowsRun =
    (f : Originated) (losses : ℕ) (d : LosingDeployment) → IsDeployedLosing f losses d → (memory : ℕ → Store) (events : List LossyEvent) → AllByRecursion (IsLossyEventOf d.base.shape) events →
    (fabric : FabricState) (cells : List (List Cell)) (horizon : ℕ) → IsTrue fabric.faithful → IsLossyRun d.base.layout d.base.shape d.base.timing losses d.base.inputs fabric events cells horizon →
    (y n x : ℕ) → GivesOutput d.base y n x → (losing_run d memory events).shown_so_far n x ≡ slice_index_or cells y []
