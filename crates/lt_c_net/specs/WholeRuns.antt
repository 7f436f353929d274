-- What nodes that run their emitted code show: the beginnings of the program's own streams.
use Rattle.std.specs.Prelude.{◌≡◌, ℕ, ◌<◌, ◌≤◌, List, [], Some, length, min, take, slice_index_or}
use Rattle.std.specs.List.{AllByRecursion}
use Rattle.lt_base.specs.Program.{Function}
use Rattle.lt_base.specs.Meaning.{stream_of}
use Rattle.lt_base.specs.Behaviour.{RowsFit}
use Rattle.lt_arch.specs.declared.event.Event.{Event}
use Rattle.lt_arch.specs.declared.pace.Pace.{Pace}
use Rattle.lt_arch.specs.Paced.{allowed_of}
use Rattle.lt_arch.specs.State.{executed_of}
use Rattle.lt_arch.specs.Readers.{node_count}
use Rattle.lt_arch.specs.Schedule.{IsEventOf, IsOffenceFree, IsAdmissible, EndsAt, reached}
use Rattle.lt_timing.specs.Accepts.{Accepts}
use Rattle.lt_lead.specs.Paced.{KeepsPace, bound_by}
use Rattle.lt_norm.specs.Flat.{Originated}
use Rattle.lt_place.specs.Layout.{IsPlaced, PartGives, part_of}
use Rattle.lt_c.specs.Meaning.{Store}
use Rattle.lt_c_net.specs.Emitted.{IsEmittedNode}
use Rattle.lt_c_net.specs.Runs.{Deployment, NodesRunning, emitted_run}

-- a program of a legal placement, under a protocol whose links lose nothing, with an accepted timing, inputs that fit it, and the code of each node
pub record IsDeployed (f : Originated) (pace : Pace) (d : Deployment) : Type 0 where
  pub placed : IsPlaced f d.layout
  pub few : length d.layout.names ≤ 32
  pub paced : KeepsPace d.layout d.shape d.timing pace
  pub loses_nothing : (losses : ℕ) → allowed_of pace ≡ Some losses → ⊥
  pub timed : length d.timing.nodes ≡ length d.layout.names
  pub accepted : Accepts d.timing
  pub fit : RowsFit f.func d.inputs
  pub coded : (n : ℕ) → n < node_count d.shape → IsEmittedNode d.layout d.shape n (d.nodes n)

-- node n gives out output y of the program, by the number x in its part
abbrev pub GivesOutput : Deployment → (y n x : ℕ) → Type 0
GivesOutput d y n x = (y < length d.layout.outs) × (n < length d.layout.nodes) × PartGives (part_of d.layout n) (slice_index_or d.layout.outs y 0) x

-- what was shown of each output is the beginning of its stream in the whole program, with a cell for each instant that its node has executed by
-- the step definition; where the events end, there are at least as many as the protocol's bound for the horizon, or one for each row of inputs
pub record ShowsWhole (f : Function) (pace : Pace) (d : Deployment) (events : List Event) (w : NodesRunning) : Type 0 where
  pub fronts : (y n x : ℕ) → GivesOutput d y n x →
      w.shown_so_far n x ≡ take (executed_of (reached d.shape d.timing (length d.inputs) events) n) (stream_of [] f d.inputs (slice_index_or d.layout.outs y 0))
  pub count : (y n x : ℕ) → GivesOutput d y n x → length (w.shown_so_far n x) ≡ executed_of (reached d.shape d.timing (length d.inputs) events) n
  pub enough : (h : ℕ) → IsAdmissible d.shape d.timing (length d.inputs) events → EndsAt d.shape d.timing (length d.inputs) events h →
      (y n x : ℕ) → GivesOutput d y n x → min (bound_by pace d.timing n h) (length d.inputs) ≤ length (w.shown_so_far n x)

-- so it is for every accepted program, placement and timing, whatever the nodes' memory held before, and along every list of events within the bounds
abbrev pub EmittedRunIsWhole : Type 0
EmittedRunIsWhole =
    (f : Originated) (pace : Pace) (d : Deployment) → IsDeployed f pace d → (memory : ℕ → Store) (events : List Event) →
    AllByRecursion (IsEventOf d.shape) events → IsOffenceFree d.shape d.timing (length d.inputs) events →
    ShowsWhole f.func pace d events (emitted_run d memory events)
