-- What the files of all nodes show when they run over links that lose messages: the beginnings of the program's own streams.
use Rattle.std.specs.Prelude.{◌≡◌, ℕ, ◌+◌, ◌^◌, ◌<◌, false, List, length}
use Rattle.std.specs.List.{AllByRecursion}
use Rattle.lt_base.specs.Behaviour.{RowsFit}
use Rattle.lt_arch.specs.declared.pace.Pace.TheVariants.{Lossy}
use Rattle.lt_arch.specs.Readers.{node_count}
use Rattle.lt_lossy.specs.declared.event.LossyEvent.{LossyEvent}
use Rattle.lt_lossy.specs.Events.{IsLossyEventOf}
use Rattle.lt_lossy.specs.Schedule.{IsLossyOffenceFree}
use Rattle.lt_lead.specs.Paced.{KeepsPace}
use Rattle.lt_norm.specs.Flat.{Originated}
use Rattle.lt_place.specs.Layout.{IsPlaced}
use Rattle.lt_c.specs.Meaning.{Store}
use Rattle.lt_c_bodies.specs.Acts.{posts_of}
use Rattle.lt_c_node.specs.NodeOf.{IsEmitted}
use Rattle.lt_c_files.specs.FileNodes.{code_of_file}
use Rattle.lt_c_files.specs.FileRuns.{EmittedFilesRunWhole}
use Rattle.lt_c_lossy.specs.LosingRuns.{LosingDeployment, losing_run}
use Rattle.lt_c_lossy.specs.LosingWholeRuns.{ShowsWholeLosing}

-- node n runs the file that has this text, and keeps what the file keeps to send it again
pub record RunsLosingText (d : LosingDeployment) (losses n : ℕ) (text : List ℕ) : Type 0 where
  pub emitted : IsEmitted d.base.layout d.base.shape d.base.timing (Lossy losses) n false text
  pub code : d.base.nodes n ≡ code_of_file emitted.file
  pub posts : d.posts n ≡ posts_of emitted.file.links.receivers

-- a program of a legal placement, whose links lose at most so many messages in a row, with inputs that fit it, no more than an int64_t counts,
-- of which each node runs the file that was emitted for it
pub record RunsLosingTexts (f : Originated) (losses : ℕ) (d : LosingDeployment) (texts : ℕ → List ℕ) : Type 0 where
  pub placed : IsPlaced f d.base.layout
  pub paced : KeepsPace d.base.layout d.base.shape d.base.timing (Lossy losses)
  pub timed : length d.base.timing.nodes ≡ length d.base.layout.names
  pub fit : RowsFit f.func d.base.inputs
  pub counted : length d.base.inputs + 1 < 2 ^ 63
  pub texts_are : (n : ℕ) → n < node_count d.base.shape → RunsLosingText d losses n (texts n)

-- whatever the nodes' memory held before, and along every list of events within the bounds, each output shows the beginning of its stream
abbrev pub LosingFilesRunWhole : Type 0
LosingFilesRunWhole =
    (f : Originated) (losses : ℕ) (d : LosingDeployment) (texts : ℕ → List ℕ) → RunsLosingTexts f losses d texts → (memory : ℕ → Store) (events : List LossyEvent) →
    AllByRecursion (IsLossyEventOf d.base.shape) events → IsLossyOffenceFree d.base.shape d.base.timing losses (length d.base.inputs) events →
    ShowsWholeLosing f.func losses d events (losing_run d memory events)

-- so it is of emitted files under all four protocols: over links that lose nothing, under back-pressure, the time-based protocol or a leader, and
-- over links that lose messages
abbrev pub ProtocolsRunWhole : Type 0
ProtocolsRunWhole = EmittedFilesRunWhole × LosingFilesRunWhole
