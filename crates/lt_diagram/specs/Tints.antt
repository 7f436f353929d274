-- What instant each node is at.
use Rattle.std.specs.Prelude.{ℕ, ◌-◌, ◌%◌, ◌==◌, ◌&&◌, nat_lt, min, Bool, true, false, List, [], ◌∷◌, Option, Some, None, find, codes}
use Rattle.lt_diagram.specs.declared.picture.Mark.{Mark}
use Rattle.lt_diagram.specs.declared.picture.Sign.{Sign}
use Rattle.lt_diagram.specs.declared.picture.Sign.TheVariants.{Nothing, Executes, Sends}
use Rattle.lt_diagram.specs.declared.chart.Chart.{Chart}
use Rattle.lt_diagram.specs.Chart.{x_at, row_top}
use Rattle.lt_svg.specs.Pieces.{filled_template}
use Rattle.lt_diagram.specs.Template.{each_text, piece_if}

abbrev pub is_execution : Sign → Bool
is_execution Nothing = false
is_execution (Executes k) = true
is_execution (Sends k) = false

-- a time, but no later than the end
abbrev pub no_later : (end : ℕ) → Option Mark → ℕ
no_later end None = end
no_later end (Some n) = min n.time end

-- when the node executes next
unfoldable pub ends_at : (node : ℕ) → (later : List Mark) → (end : ℕ) → ℕ
ends_at node later end = no_later end (find (λ n. (n.node == node) && is_execution n.sign) later)

-- the row of a node between two times, in the colour of an instant
unfoldable pub drawn_tint : Chart → (node instant from to : ℕ) → List ℕ
drawn_tint c node k from to =
    piece_if (nat_lt (x_at c from) (x_at c to))
    (filled_template (codes "<rect x=\"%\" y=\"%\" width=\"%\" height=\"%\" class=\"i%\"/>\n") (x_at c from ∷ row_top c node ∷ (x_at c to - x_at c from) ∷ (c.row - 1) ∷ (k % 3) ∷ []))

abbrev pub tint_by : Sign → Chart → Mark → (later : List Mark) → (end : ℕ) → List ℕ
tint_by Nothing c m later end = []
tint_by (Executes k) c m later end = drawn_tint c m.node k m.time (ends_at m.node later end)
tint_by (Sends k) c m later end = []

-- of each execution one, up to the node's next
unfoldable pub tint_piece : Chart → (end : ℕ) → Mark → List Mark → List ℕ
tint_piece c end m later = tint_by m.sign c m later end

unfoldable pub drawn_tints : Chart → (end : ℕ) → List Mark → List ℕ
drawn_tints c end ms = each_text (tint_piece c end) ms
