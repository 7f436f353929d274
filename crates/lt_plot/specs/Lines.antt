-- The line of a row, and the area between it and 0: a step and a block for each cell that is there.
use Rattle.std.specs.Prelude.{ℕ, ◌+◌, ◌-◌, Bool, ◌&&◌, nat_lt, List, [], ◌∷◌, ◌++◌, codes, if◌then◌else◌}
use Rattle.lt_base.specs.declared.value.Value.{Value}
use Rattle.lt_base.specs.declared.value.Cell.{Cell}
use Rattle.lt_base.specs.declared.value.Cell.TheVariants.{Absent, Here}
use Rattle.lt_scale.specs.declared.chart.Chart.{Chart}
use Rattle.lt_scale.specs.declared.band.Band.{Band}
use Rattle.lt_scale.specs.Chart.{instant_x}
use Rattle.lt_scale.specs.Scale.{value_level, scale_floor}
use Rattle.lt_scale.specs.Band.{level_y}
use Rattle.lt_scale.specs.Cells.{stream_cell, is_there}
use Rattle.lt_svg.specs.Pieces.{filled_template}
use Rattle.lt_plot.specs.Pieces.{pieces_from}

-- the line goes on from the instant before, where that is in the same part of the line and has a value
abbrev pub goes_on : List Cell → (start k : ℕ) → Bool
goes_on cells start k = nat_lt start k && is_there (stream_cell cells (k - 1))

-- a step: from the beginning of the instant to its end, at the height of the value; the line goes on there, or begins anew
unfoldable pub value_step : Chart → Band → (joined : Bool) → (k : ℕ) → Value → List ℕ
value_step c b joined k v =
    if joined then filled_template (codes "V%H%") (level_y b (value_level v) ∷ instant_x c (k + 1) ∷ []) else
    filled_template (codes "M% %H%") (instant_x c k ∷ level_y b (value_level v) ∷ instant_x c (k + 1) ∷ [])

-- the step of a cell that is there, and of an absent one none
abbrev pub cell_step : Chart → Band → (joined : Bool) → (k : ℕ) → Cell → List ℕ
cell_step c b joined k Absent = []
cell_step c b joined k (Here v) = value_step c b joined k v

-- the step of an instant, in a part of the line that starts at one
unfoldable pub instant_step : Chart → Band → List Cell → (start k : ℕ) → List ℕ
instant_step c b cells start k = cell_step c b (goes_on cells start k) k (stream_cell cells k)

-- a part of the line, from one instant on, up to another
unfoldable pub plot_line : Chart → Band → List Cell → (start end : ℕ) → (class : List ℕ) → List ℕ
plot_line c b cells start end class =
    codes "<path d=\"" ++ (pieces_from (instant_step c b cells start) start (end - start) ++ (codes "\" class=\"" ++ (class ++ codes "\"/>\n")))

-- a block: between the line and the level of 0
unfoldable pub value_block : Chart → Band → (k : ℕ) → Value → List ℕ
value_block c b k v =
    filled_template (codes "M% %V%H%V%z") (instant_x c k ∷ level_y b (scale_floor b.scale) ∷ level_y b (value_level v) ∷ instant_x c (k + 1) ∷ level_y b (scale_floor b.scale) ∷ [])

abbrev pub cell_block : Chart → Band → (k : ℕ) → Cell → List ℕ
cell_block c b k Absent = []
cell_block c b k (Here v) = value_block c b k v

unfoldable pub instant_block : Chart → Band → List Cell → (k : ℕ) → List ℕ
instant_block c b cells k = cell_block c b k (stream_cell cells k)

-- the area of a part of the line
unfoldable pub area_path : Chart → Band → List Cell → (start end : ℕ) → List ℕ
area_path c b cells start end = codes "<path d=\"" ++ (pieces_from (instant_block c b cells) start (end - start) ++ codes "\" class=\"ar\"/>\n")

-- it is drawn where 0 is on the scale
unfoldable pub plot_area : Chart → Band → List Cell → (start end : ℕ) → List ℕ
plot_area c b cells start end = if b.scale.zero then area_path c b cells start end else []
