-- What the files of all nodes show when they run: the beginnings of the program's own streams.
use Rattle.std.specs.Prelude.{◌≡◌, ℕ, ◌<◌, ◌≤◌, List, length, Some, false}
use Rattle.std.specs.List.{AllByRecursion}
use Rattle.lt_base.specs.declared.value.Value.{Value}
use Rattle.lt_base.specs.Behaviour.{RowsFit}
use Rattle.lt_arch.specs.declared.event.Event.{Event}
use Rattle.lt_arch.specs.declared.pace.Pace.{Pace}
use Rattle.lt_arch.specs.declared.shape.Shape.{Shape}
use Rattle.lt_arch.specs.declared.timing.Timing.{Timing}
use Rattle.lt_arch.specs.Paced.{allowed_of}
use Rattle.lt_arch.specs.Readers.{node_count}
use Rattle.lt_arch.specs.Schedule.{IsEventOf, IsOffenceFree}
use Rattle.lt_timing.specs.Accepts.{Accepts}
use Rattle.lt_lead.specs.Paced.{KeepsPace}
use Rattle.lt_norm.specs.Flat.{Originated}
use Rattle.lt_place.specs.declared.layout.Layout.{Layout}
use Rattle.lt_place.specs.Layout.{IsPlaced}
use Rattle.lt_c.specs.Meaning.{Store}
use Rattle.lt_c_net.specs.Runs.{Deployment, emitted_run}
use Rattle.lt_c_net.specs.WholeRuns.{IsDeployed, ShowsWhole}
use Rattle.lt_c_node.specs.NodeOf.{IsEmitted}
use Rattle.lt_c_files.specs.FileNodes.{code_of_file}
use Rattle.lt_c_files.specs.Bodies.{bodies_of, text_by}

-- node n runs the file that has this text
pub record RunsText (d : Deployment) (pace : Pace) (n : ℕ) (text : List ℕ) : Type 0 where
  pub emitted : IsEmitted d.layout d.shape d.timing pace n false text
  pub code : d.nodes n ≡ code_of_file emitted.file

-- a program of a legal placement, under a protocol whose links lose nothing, with an accepted timing and inputs that fit it, of which each
-- node runs the file that was emitted for it
pub record RunsTexts (f : Originated) (pace : Pace) (d : Deployment) (texts : ℕ → List ℕ) : Type 0 where
  pub placed : IsPlaced f d.layout
  pub few : length d.layout.names ≤ 32
  pub paced : KeepsPace d.layout d.shape d.timing pace
  pub loses_nothing : (losses : ℕ) → allowed_of pace ≡ Some losses → ⊥
  pub timed : length d.timing.nodes ≡ length d.layout.names
  pub accepted : Accepts d.timing
  pub fit : RowsFit f.func d.inputs
  pub texts_are : (n : ℕ) → n < node_count d.shape → RunsText d pace n (texts n)

-- the text has the bodies that node n runs
abbrev pub PrintsRun : Deployment → Pace → (n : ℕ) → List ℕ → Type 0
PrintsRun d pace n text = (e : IsEmitted d.layout d.shape d.timing pace n false text) × (text ≡ text_by e.file (bodies_of e.file.part.decls d.layout d.timing n (d.nodes n)))

-- the texts have the bodies that are run; and so, whatever the nodes' memory held before, and along every list of events within the bounds,
-- each output shows the beginning of its stream
pub record FilesRunWhole (f : Originated) (pace : Pace) (d : Deployment) (texts : ℕ → List ℕ) : Type 0 where
  pub deployed : IsDeployed f pace d
  pub print : (n : ℕ) → n < node_count d.shape → PrintsRun d pace n (texts n)
  pub shows : (memory : ℕ → Store) (events : List Event) → AllByRecursion (IsEventOf d.shape) events → IsOffenceFree d.shape d.timing (length d.inputs) events →
      ShowsWhole f.func pace d events (emitted_run d memory events)

-- so it is wherever each node runs the file that was emitted for it
abbrev pub EmittedFilesRunWhole : Type 0
EmittedFilesRunWhole = (f : Originated) (pace : Pace) (d : Deployment) (texts : ℕ → List ℕ) → RunsTexts f pace d texts → FilesRunWhole f pace d texts

-- where a text was emitted for each node, there is a deployment of which each node runs it
abbrev pub TextsDeploy : Type 0
TextsDeploy =
    (l : Layout) (s : Shape) (t : Timing) (pace : Pace) (inputs : List (List Value)) (texts : ℕ → List ℕ) → ((n : ℕ) → n < node_count s → IsEmitted l s t pace n false (texts n)) →
    (d : Deployment) × (d.layout ≡ l) × (d.shape ≡ s) × (d.timing ≡ t) × (d.inputs ≡ inputs) × ((n : ℕ) → n < node_count d.shape → RunsText d pace n (texts n))
