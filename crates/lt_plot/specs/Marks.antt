-- Dots where nothing is, and values where they change.
use Rattle.std.specs.Prelude.{ℕ, ℤ, ◌+◌, ◌-◌, ◌/◌, Bool, ◌&&◌, ◌||◌, not, nat_lt, nat_le, List, [], ◌∷◌, ◌++◌, codes, if◌then◌else◌}
use Rattle.std.specs.Fmt.{signed_decimal}
use Rattle.lt_base.specs.declared.value.Value.TheVariants.{Int, Bool as Truth}
use Rattle.lt_base.specs.declared.value.Cell.{Cell}
use Rattle.lt_base.specs.declared.value.Cell.TheVariants.{Absent, Here}
use Rattle.lt_scale.specs.declared.chart.Chart.{Chart}
use Rattle.lt_scale.specs.declared.band.Band.{Band}
use Rattle.lt_scale.specs.Chart.{instant_middle}
use Rattle.lt_scale.specs.Scale.{value_level}
use Rattle.lt_scale.specs.Band.{band_base, level_y}
use Rattle.lt_scale.specs.Room.{dots_fit, values_fit}
use Rattle.lt_scale.specs.Cells.{stream_cell, has_level}
use Rattle.lt_svg.specs.Pieces.{filled_template}

-- a dot in the middle of a row
unfoldable pub plot_dot : Chart → Band → (k : ℕ) → List ℕ
plot_dot c b k = if dots_fit c then filled_template (codes "<circle cx=\"%\" cy=\"%\" r=\"1\" class=\"dot\"/>\n") (instant_middle c k ∷ (band_base b - b.height / 2) ∷ []) else []

-- the height of a value's text: below its line where that is near the head of the scale, and else above it
unfoldable pub beside_line : Band → (y : ℕ) → ℕ
beside_line b y = if nat_lt y (b.top + 17) then y + 12 else y - 4

-- the text of a number, strong where the run printed it
unfoldable pub plot_number : Chart → Band → (printed : Bool) → (k : ℕ) → ℤ → List ℕ
plot_number c b printed k n =
    filled_template (codes "<text x=\"%\" y=\"%\" class=\"") (instant_middle c k ∷ beside_line b (level_y b (value_level (Int n))) ∷ [])
    ++ ((if printed then codes "tx m s\">" else codes "pv m s\">") ++ (signed_decimal n ++ codes "</text>\n"))

-- the cell before does not have this number, or the instant is the first that is shown
unfoldable pub is_news : List Cell → (start k : ℕ) → ℤ → Bool
is_news cells start k n = nat_le k start || not (has_level (stream_cell cells (k - 1)) (value_level (Int n)))

-- the mark of an instant: a dot where nothing is, and a number where it is news and has room
abbrev pub cell_mark : Chart → Band → List Cell → (start solid k : ℕ) → Cell → List ℕ
cell_mark c b cells start solid k Absent = plot_dot c b k
cell_mark c b cells start solid k (Here (Int n)) = if values_fit c b && is_news cells start k n then plot_number c b (nat_lt k solid) k n else []
cell_mark c b cells start solid k (Here (Truth t)) = []

unfoldable pub instant_mark : Chart → Band → List Cell → (start solid k : ℕ) → List ℕ
instant_mark c b cells start solid k = cell_mark c b cells start solid k (stream_cell cells k)
