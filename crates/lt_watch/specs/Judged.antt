-- What an observer makes of the cells of a run.
use Rattle.std.specs.Prelude.{◌≡◌, ◌↔◌, ◌⊎◌, ℕ, ◌<◌, ◌≤◌, Bool, false, IsTrue, List, [], ◌∷◌, length, map, slice_index_or, Ok, Err}
use Rattle.lt_base.specs.declared.value.Value.{Value}
use Rattle.lt_base.specs.declared.value.Value.TheVariants.{Bool as Truth}
use Rattle.lt_base.specs.declared.value.Cell.{Cell}
use Rattle.lt_base.specs.declared.value.Cell.TheVariants.{Absent, Here}
use Rattle.lt_base.specs.Program.{WholeProgram}
use Rattle.lt_io.specs.FabricState.{FabricState}
use Rattle.lt_past.specs.Satisfaction.{Signals, Sat}
use Rattle.lt_past.specs.Observer.{Observing}
use Rattle.lt_evaluate.specs.Main.{output_streams}
use Rattle.lt_watch.specs.declared.watched.Watched.{Watched}
use Rattle.lt_watch.specs.declared.watched.Watched.TheVariants.{Holds, Fails}

-- the truth value of a cell
abbrev pub is_true : Cell → Bool
is_true (Here (Truth b)) = b
is_true _ = false

-- the list of an output, by its place
abbrev pub column : List (List Cell) → ℕ → List Cell
column cells y = slice_index_or cells y []

-- the outputs at these places as signals: the k-th of them at the instant i
abbrev pub signals_at : List ℕ → List (List Cell) → Signals
signals_at outs cells k i = is_true (slice_index_or (column cells (slice_index_or outs k 0)) i Absent)

-- their truth values at an instant
abbrev pub values_at : List ℕ → List (List Cell) → ℕ → List Bool
values_at outs cells i = map (λ y. is_true (slice_index_or (column cells y) i Absent)) outs

-- the lists of the outputs at these places, or of all outputs where there is none
abbrev pub counted_columns : List ℕ → List (List Cell) → List (List Cell)
counted_columns [] cells = cells
counted_columns (y ∷ ys) cells = map (column cells) (y ∷ ys)

-- the length of the shortest of these lists; 0 where there is none
pub record IsShortest (columns : List (List Cell)) (n : ℕ) : Type 0 where
  pub below : (k : ℕ) → k < length columns → n ≤ length (column columns k)
  pub reached : ((columns ≡ []) × (n ≡ 0)) ⊎ ((k : ℕ) × (k < length columns) × (length (column columns k) ≡ n))

-- The observer holds at each instant below the least number of cells, which is n; or i is the first below it at which it does not.
abbrev pub WatchTells : Observing → List (List Cell) → Watched → Type 0
WatchTells o cells (Holds n) = IsShortest (counted_columns o.outs cells) n × ((j : ℕ) → j < n → Sat (signals_at o.outs cells) o.formula j)
WatchTells o cells (Fails i) = (n : ℕ) × IsShortest (counted_columns o.outs cells) n × (i < n) × (Sat (signals_at o.outs cells) o.formula i → ⊥) × ((j : ℕ) → j < i → Sat (signals_at o.outs cells) o.formula j)

-- what is told of a run of a program on these rows of inputs, whose outputs have these cells
pub record IsWatched (p : WholeProgram) (rows : List (List Value)) (fabric : FabricState) (o : Observing) (cells : List (List Cell)) (told : Watched) : Type 0 where
  pub tells : WatchTells o cells told
  -- over a faithful fabric the observer holds at the same instants of the outputs' streams in the whole program
  pub whole : IsTrue fabric.faithful → (n i : ℕ) → IsShortest (counted_columns o.outs cells) n → i < n → Sat (signals_at o.outs cells) o.formula i ↔ Sat (signals_at o.outs (output_streams p rows)) o.formula i
