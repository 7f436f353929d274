-- The axis, its grid, and the nodes' lines.
use Rattle.std.specs.Prelude.{ℕ, zero, suc, ◌+◌, ◌-◌, ◌*◌, ◌/◌, ◌++◌, nat_le, max, List, [], ◌∷◌, length, take, drop, codes, if◌then◌else◌}
use Rattle.lt_diagram.specs.declared.chart.Chart.{Chart}
use Rattle.lt_diagram.specs.Chart.{x_at, y_at, bottom, nice_step}
use Rattle.lt_svg.specs.Pieces.{filled_template, escaped}
use Rattle.lt_diagram.specs.Template.{piece_if}

-- a tick with its time and a line over all rows
unfoldable pub drawn_tick : Chart → (time : ℕ) → List ℕ
drawn_tick c t =
    piece_if (nat_le c.from t)
    (filled_template (codes "<path d=\"M% %V%\" class=\"gr\"/><path d=\"M% %v5\" class=\"nl\"/><text x=\"%\" y=\"%\" class=\"ts m s\">%</text>\n")
    (x_at c t ∷ c.top ∷ bottom c ∷ x_at c t ∷ (bottom c + 6) ∷ x_at c t ∷ (bottom c + 23) ∷ t ∷ []))

-- the ticks at so many multiples of a step, from the k-th on
abbrev pub ticks_from : Chart → (step k count : ℕ) → List ℕ
ticks_from c step k zero = []
ticks_from c step k (suc n) = drawn_tick c (k * step) ++ ticks_from c step (suc k) n

-- at all multiples of a step in the window
unfoldable pub drawn_ticks : Chart → (step : ℕ) → List ℕ
drawn_ticks c step =
    ticks_from c (max step 1) (c.from / max step 1) (c.to / max step 1 - c.from / max step 1) ++ drawn_tick c (c.to / max step 1 * max step 1)

-- the axis, with the least step at which the times have room
unfoldable pub drawn_axis : Chart → List ℕ
drawn_axis c =
    drawn_ticks c (nice_step c.room c.breadth (c.to - c.from))
    ++ filled_template (codes "<path d=\"M% %H%\" class=\"nl\"/><text x=\"12\" y=\"%\" class=\"ts s\">tick</text>\n") (c.left ∷ (bottom c + 6) ∷ (c.left + c.breadth) ∷ (bottom c + 23) ∷ [])

-- a name of more than 16 characters without its middle
unfoldable pub short_name : List ℕ → List ℕ
short_name n = if nat_le (length n) 16 then escaped n else escaped (take 10 n) ++ (codes ".." ++ escaped (drop (length n - 4) n))

-- the line of a node, with its whole name to be read aloud, and its name beside it
unfoldable pub node_rail : Chart → (node : ℕ) → List ℕ
node_rail c k = filled_template (codes "<path d=\"M% %H%\" class=\"nl\"/><g><title>") (c.left ∷ y_at c k ∷ (c.left + c.breadth) ∷ [])

unfoldable pub node_track : Chart → (node : ℕ) → (name : List ℕ) → List ℕ
node_track c k name = node_rail c k ++ (escaped name ++ codes "</title>")

unfoldable pub label_opening : Chart → (node : ℕ) → List ℕ
label_opening c k = filled_template (codes "<text x=\"%\" y=\"%\" class=\"tx e\">") ((c.left - 14) ∷ (y_at c k + 4) ∷ [])

unfoldable pub node_label : Chart → (node : ℕ) → (name : List ℕ) → List ℕ
node_label c k name = label_opening c k ++ (short_name name ++ codes "</text></g>\n")

unfoldable pub drawn_node : Chart → (node : ℕ) → (name : List ℕ) → List ℕ
drawn_node c k name = node_track c k name ++ node_label c k name

-- one for each node, as far as numbers of 32 bits go
abbrev pub node_piece : Chart → (k : ℕ) → (name : List ℕ) → List ℕ
node_piece c k name = piece_if (nat_le k 4294967295) (drawn_node c k name)

abbrev pub nodes_from : Chart → (k : ℕ) → (names : List (List ℕ)) → List ℕ
nodes_from c k [] = []
nodes_from c k (n ∷ ns) = node_piece c k n ++ nodes_from c (suc k) ns

unfoldable pub drawn_nodes : Chart → (names : List (List ℕ)) → List ℕ
drawn_nodes c names = nodes_from c 0 names
