-- One step for each value.
use Rattle.std.proofs.Common.{◌≡◌, ℕ, zero, suc, ◌+◌, List, ◌++◌, refl, sym, ◌∙◌, append-nil}
use Rattle.std.specs.List.{flat_map}
use Rattle.std.proofs.lemmas.Grind.{flat_map-append}
use Rattle.lt_base.specs.declared.value.Value.{Value}
use Rattle.lt_base.specs.declared.value.Cell.{Cell}
use Rattle.lt_base.specs.declared.value.Cell.TheVariants.{Absent, Here}
use Rattle.lt_scale.specs.declared.chart.Chart.{Chart}
use Rattle.lt_scale.specs.declared.band.Band.{Band}
use Rattle.lt_scale.specs.Cells.{stream_cell}
use Rattle.lt_plot.specs.Pieces.{pieces_from}
use Rattle.lt_plot.specs.Lines.{goes_on, value_step, cell_step, instant_step}
use Rattle.lt_plot.specs.Values.{value_there, values_from, OneStepEach}

module _ (c : Chart) (b : Band) (cells : List Cell) (start : ℕ) where
  abbrev step_of : ℕ × Value → List ℕ
  step_of p = value_step c b (goes_on cells start p.0) p.0 p.1

  of_cell : (k : ℕ) (cell : Cell) → cell_step c b (goes_on cells start k) k cell ≡ flat_map step_of (value_there k cell)
  of_cell k Absent = refl
  of_cell k (Here v) = sym (append-nil (step_of (k, v)))

  all_steps : (count : ℕ) → pieces_from (instant_step c b cells start) start count ≡ flat_map step_of (values_from cells start count)
  unfolding instant_step
  all_steps zero = refl
  all_steps (suc n) =
      (λ i. all_steps n i ++ of_cell (start + n) (stream_cell cells (start + n)) i)
      ∙ sym (flat_map-append step_of (values_from cells start n) (value_there (start + n) (stream_cell cells (start + n))))

pub law : OneStepEach
law c b cells start count = all_steps c b cells start count
