-- What a reader has of a watched run that ended well.
use Rattle.std.specs.Prelude.{◌≡◌, ◌⊎◌, ◌<◌, ◌≤◌, ℕ, min, IsTrue, List, [], length, Option, Some, slice_index_or}
use Rattle.lt_base.specs.declared.value.Value.{Value}
use Rattle.lt_place.specs.declared.layout.Layout.{Layout}
use Rattle.lt_place.specs.Layout.{PartGives, part_of}
use Rattle.lt_lead.specs.Paced.{bound_by}
use Rattle.lt_past.specs.Faults.{IsObserverOf}
use Rattle.lt_past.specs.Observer.{Observing}
use Rattle.lt_load_fit.specs.Main.{main_in}
use Rattle.lt_evaluate.specs.Main.{output_streams}
use Rattle.lt_evaluate.specs.declared.outputs.Outputs.{Outputs}
use Rattle.lt_run.specs.Kinds.{executed_by}
use Rattle.lt_watch.specs.declared.watched.Watched.{Watched}
use Rattle.lt_watch.specs.Whole.{JudgesObserver, Counts}
use Rattle.lt_cli.specs.Objects.{Objects}
use Rattle.lt_cli.specs.Headline.{IsRunAlong}
use Rattle.lt_cli.specs.Taken.{TookText}
use Rattle.lt_text_answers.specs.Texts.{watched_text}

-- node n has an output that counts, as its own variable
abbrev pub HasCounted : Layout → List ℕ → (n : ℕ) → Type 0
HasCounted l outs n = (y : ℕ) × (x : ℕ) × Counts outs (length l.outs) y × (n < length l.nodes) × PartGives (part_of l n) (slice_index_or l.outs y 0) x

-- the least of the numbers of instants that the nodes have executed which have an output that counts; it is at least what is promised of that
-- node, or one for each row of inputs
pub record AreInstants (l : Layout) (rows : List (List Value)) (executed bound : ℕ → ℕ) (outs : List ℕ) (instants : ℕ) : Type 0 where
  pub least : (n : ℕ) → HasCounted l outs n → instants ≤ executed n
  pub attained : ((l.outs ≡ []) × (instants ≡ 0)) ⊎ ((n : ℕ) × HasCounted l outs n × (instants ≡ executed n) × (min (bound n) (length rows) ≤ instants))

-- a run along these files that this observer watches ended well
pub record IsWatchShown (named : List ℕ → Option (List ℕ)) (program inputs schedule observer : List ℕ) (config : Option (List ℕ)) (old new : Objects) : Type 0 where
  -- the run and its outputs, whose cells `run` prints of the same files
  pub ran : Outputs
  pub run : IsRunAlong named program inputs schedule config new.fabric ran
  -- the observer's file spells it over the outputs of `main`
  pub bytes : List ℕ
  pub file : named observer ≡ Some bytes
  pub watching : Observing
  pub spelled : IsObserverOf 200 (main_in run.plan.checked.program) bytes watching
  -- `out` took the text of what is told, and `err` nothing
  pub told : Watched
  pub text : TookText (watched_text told) old new
  -- it is told of so many instants, by what the nodes have executed after the events, and by their bounds for the horizon
  pub instants : ℕ
  pub are_instants : AreInstants run.layout run.plan.inputs.rows (executed_by run.plan.setup.pace run.shape run.plan.setup.timing (length run.plan.inputs.rows) run.events)
      (λ n. bound_by run.plan.setup.pace run.plan.setup.timing n run.shows.horizon) watching.outs instants
  -- by when the observer is satisfied on the run's cells
  pub of_cells : JudgesObserver watching ran.cells instants told
  -- over a faithful fabric this is when it is satisfied on the outputs' streams in the whole program, which knows no nodes
  pub whole : IsTrue new.fabric.faithful → JudgesObserver watching (output_streams run.plan.checked.program run.plan.inputs.rows) instants told
