-- What is told of an observer, said of any lists of cells: those of a run, or the streams of the whole program.
use Rattle.std.specs.Prelude.{◌≡◌, ℕ, ◌<◌, List, [], ◌∷◌, length, slice_index_or}
use Rattle.lt_base.specs.declared.value.Cell.{Cell}
use Rattle.lt_past.specs.Satisfaction.{Sat}
use Rattle.lt_past.specs.Observer.{Observing}
use Rattle.lt_watch.specs.declared.watched.Watched.{Watched}
use Rattle.lt_watch.specs.declared.watched.Watched.TheVariants.{Holds, Fails}
use Rattle.lt_watch.specs.Judged.{signals_at}

-- the observer is satisfied at each of so many instants of these lists, or it fails at one of them and is satisfied at each before it
abbrev pub JudgesObserver : Observing → List (List Cell) → (instants : ℕ) → Watched → Type 0
JudgesObserver o lists instants (Holds n) = (n ≡ instants) × ((j : ℕ) → j < instants → Sat (signals_at o.outs lists) o.formula j)
JudgesObserver o lists instants (Fails i) = (i < instants) × (Sat (signals_at o.outs lists) o.formula i → ⊥) × ((j : ℕ) → j < i → Sat (signals_at o.outs lists) o.formula j)

-- of so many outputs, the one at this place is named, or none is
abbrev pub Counts : List ℕ → (outputs place : ℕ) → Type 0
Counts [] outputs y = y < outputs
Counts (z ∷ zs) outputs y = (k : ℕ) × (k < length (z ∷ zs)) × (slice_index_or (z ∷ zs) k 0 ≡ y)
