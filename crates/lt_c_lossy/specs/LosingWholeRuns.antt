-- What nodes show that run their emitted code over links that lose messages: the beginnings of the program's own streams.
use Rattle.std.specs.Prelude.{◌≡◌, ℕ, ◌+◌, ◌^◌, ◌<◌, ◌≤◌, List, [], length, min, take, slice_index_or}
use Rattle.std.specs.List.{AllByRecursion}
use Rattle.lt_base.specs.Program.{Function}
use Rattle.lt_base.specs.Meaning.{stream_of}
use Rattle.lt_base.specs.Behaviour.{RowsFit}
use Rattle.lt_arch.specs.declared.pace.Pace.TheVariants.{Lossy}
use Rattle.lt_arch.specs.Readers.{node_count}
use Rattle.lt_lossy.specs.declared.event.LossyEvent.{LossyEvent}
use Rattle.lt_lossy.specs.Events.{IsLossyEventOf}
use Rattle.lt_lossy.specs.Schedule.{lossy_reached, IsLossyOffenceFree, IsLossyAdmissible, LossyEndsAt}
use Rattle.lt_lead.specs.Paced.{KeepsPace, bound_by}
use Rattle.lt_norm.specs.Flat.{Originated}
use Rattle.lt_place.specs.Layout.{IsPlaced}
use Rattle.lt_c.specs.Meaning.{Store}
use Rattle.lt_c_net.specs.Runs.{NodesRunning}
use Rattle.lt_c_net.specs.WholeRuns.{GivesOutput}
use Rattle.lt_c_lossy.specs.Losing.{IsLosingNode}
use Rattle.lt_c_lossy.specs.LosingRuns.{LosingDeployment, losing_run}

-- a program of a legal placement, whose links lose at most so many messages in a row, with inputs that fit it, no more than an int64_t counts,
-- and the code of each node
pub record IsDeployedLosing (f : Originated) (losses : ℕ) (d : LosingDeployment) : Type 0 where
  pub placed : IsPlaced f d.base.layout
  pub paced : KeepsPace d.base.layout d.base.shape d.base.timing (Lossy losses)
  pub timed : length d.base.timing.nodes ≡ length d.base.layout.names
  pub fit : RowsFit f.func d.base.inputs
  pub counted : length d.base.inputs + 1 < 2 ^ 63
  pub coded : (n : ℕ) → n < node_count d.base.shape → IsLosingNode d.base.layout d.base.shape n (d.base.nodes n) (d.posts n)

-- what was shown of each output is the beginning of its stream in the whole program, with a cell for each instant that its node has executed by
-- the step definition; where the events end, there are at least as many as the bound for so many losses, or one for each row of inputs
pub record ShowsWholeLosing (f : Function) (losses : ℕ) (d : LosingDeployment) (events : List LossyEvent) (w : NodesRunning) : Type 0 where
  pub fronts : (y n x : ℕ) → GivesOutput d.base y n x →
      w.shown_so_far n x ≡ take ((lossy_reached d.base.shape d.base.timing (length d.base.inputs) events).node n).executed (stream_of [] f d.base.inputs (slice_index_or d.base.layout.outs y 0))
  pub count : (y n x : ℕ) → GivesOutput d.base y n x → length (w.shown_so_far n x) ≡ ((lossy_reached d.base.shape d.base.timing (length d.base.inputs) events).node n).executed
  pub enough : (h : ℕ) → IsLossyAdmissible d.base.shape d.base.timing losses (length d.base.inputs) events → LossyEndsAt d.base.shape d.base.timing (length d.base.inputs) events h →
      (y n x : ℕ) → GivesOutput d.base y n x → min (bound_by (Lossy losses) d.base.timing n h) (length d.base.inputs) ≤ length (w.shown_so_far n x)

-- so it is for every program, placement and timing, whatever the nodes' memory held before, and along every list of activations, deliveries and
-- losses within the bounds
abbrev pub LossyRunIsWhole : Type 0
LossyRunIsWhole =
    (f : Originated) (losses : ℕ) (d : LosingDeployment) → IsDeployedLosing f losses d → (memory : ℕ → Store) (events : List LossyEvent) →
    AllByRecursion (IsLossyEventOf d.base.shape) events → IsLossyOffenceFree d.base.shape d.base.timing losses (length d.base.inputs) events →
    ShowsWholeLosing f.func losses d events (losing_run d memory events)
