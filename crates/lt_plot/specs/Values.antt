-- That a line has one step for each value.
use Rattle.std.specs.Prelude.{◌≡◌, ℕ, zero, suc, ◌+◌, List, [], ◌∷◌, ◌++◌}
use Rattle.std.specs.List.{flat_map}
use Rattle.lt_base.specs.declared.value.Value.{Value}
use Rattle.lt_base.specs.declared.value.Cell.{Cell}
use Rattle.lt_base.specs.declared.value.Cell.TheVariants.{Absent, Here}
use Rattle.lt_scale.specs.declared.chart.Chart.{Chart}
use Rattle.lt_scale.specs.declared.band.Band.{Band}
use Rattle.lt_scale.specs.Cells.{stream_cell}
use Rattle.lt_plot.specs.Pieces.{pieces_from}
use Rattle.lt_plot.specs.Lines.{goes_on, value_step, instant_step}

-- the value of a cell, with its instant; an absent cell has none
abbrev pub value_there : (k : ℕ) → Cell → List (ℕ × Value)
value_there k Absent = []
value_there k (Here v) = (k, v) ∷ []

-- the values of so many instants from one on, with their instants, in order
abbrev pub values_from : List Cell → (first count : ℕ) → List (ℕ × Value)
values_from cells first zero = []
values_from cells first (suc n) = values_from cells first n ++ value_there (first + n) (stream_cell cells (first + n))

-- a line has one step for each value of its instants, in order, where the instant and the value stand, and none for an absent cell
abbrev pub OneStepEach : Type 0
OneStepEach =
    (c : Chart) (b : Band) (cells : List Cell) (start count : ℕ) →
    pieces_from (instant_step c b cells start) start count ≡ flat_map (λ p. value_step c b (goes_on cells start p.0) p.0 p.1) (values_from cells start count)
