-- The marks of activations.
use Rattle.std.specs.Prelude.{ℕ, ◌-◌, ◌*◌, ◌%◌, ◌++◌, ◌==◌, ◌&&◌, nat_le, nat_lt, min, max, Bool, List, [], ◌∷◌, Option, Some, None, find, slice_get, unwrap_or, codes, if◌then◌else◌}
use Rattle.lt_diagram.specs.declared.picture.Mark.{Mark}
use Rattle.lt_diagram.specs.declared.picture.Sign.{Sign}
use Rattle.lt_diagram.specs.declared.picture.Sign.TheVariants.{Nothing, Executes, Sends}
use Rattle.lt_diagram.specs.declared.chart.Chart.{Chart}
use Rattle.lt_diagram.specs.declared.marks.Size.{Size}
use Rattle.lt_diagram.specs.declared.marks.Size.TheVariants.{Full, Dots, Small}
use Rattle.lt_diagram.specs.declared.marks.Style.{Style}
use Rattle.lt_diagram.specs.Chart.{x_at, y_at, is_within, nice_step}
use Rattle.lt_svg.specs.Pieces.{filled_template, escaped}
use Rattle.lt_diagram.specs.Template.{each_text, piece_if}

-- the name of a node, and of another number nothing
abbrev pub row_name : List (List ℕ) → (node : ℕ) → List ℕ
row_name names node = unwrap_or (slice_get names node) []

-- how far it is from a mark to another, where both are in the window, and else as far as the window goes
abbrev pub gap_to : Chart → Mark → Option Mark → ℕ
gap_to c m None = c.breadth
gap_to c m (Some n) = if is_within c m.time && is_within c n.time then x_at c n.time - x_at c m.time else c.breadth

-- how far it is to the next mark of the same node
unfoldable pub gap_after : Chart → Mark → (later : List Mark) → ℕ
gap_after c m later = gap_to c m (find (λ n. n.node == m.node) later)

-- the least of a number and of these ways between two marks of a node
unfoldable pub closest_from : Chart → (best : ℕ) → List Mark → ℕ
closest_from c best [] = best
closest_from c best (m ∷ ms) = closest_from c (min best (gap_after c m ms)) ms

-- with so much between the closest marks of a node, instants have their numbers inside, or are dots
abbrev pub mark_size : (gap : ℕ) → Size
mark_size gap = if nat_le 17 gap then Full else if nat_le 7 gap then Dots else Small

-- how the marks of a picture are drawn; of dots every so many have a number above
unfoldable pub style_of : Chart → List Mark → Style
style_of c ms = record { size = mark_size (closest_from c c.breadth ms); every = nice_step 32 (closest_from c c.breadth ms) 1 }

-- how far before a node's line the arrows to it end
abbrev pub arrow_end : Size → ℕ
arrow_end Full = 6
arrow_end Dots = 2
arrow_end Small = 2

-- an instant with its number inside
abbrev pub half_width : (instant : ℕ) → ℕ
half_width k = if nat_lt k 10 then 8 else if nat_lt k 100 then 9 else if nat_lt k 1000 then 12 else if nat_lt k 10000 then 15 else 21

unfoldable pub drawn_pill : (instant : ℕ) → List ℕ
drawn_pill k = filled_template (codes "<rect x=\"-%\" y=\"-8\" width=\"%\" height=\"16\" rx=\"8\" class=\"ex\"/><text y=\"3\" class=\"exn m n\">%</text>") (half_width k ∷ (2 * half_width k) ∷ k ∷ [])

-- the number above a dot
unfoldable pub drawn_number : Style → (instant : ℕ) → List ℕ
drawn_number s k = piece_if (k % max s.every 1 == 0) (filled_template (codes "<text y=\"-7\" class=\"tx m n hl\">%</text>") (k ∷ []))

abbrev pub instant_of_size : Size → Style → (instant : ℕ) → List ℕ
instant_of_size Full s k = drawn_pill k
instant_of_size Dots s k = codes "<circle r=\"4\" class=\"ex\"/>" ++ drawn_number s k
instant_of_size Small s k = codes "<circle r=\"2\" class=\"ex\"/>" ++ drawn_number s k

-- an execution
unfoldable pub drawn_instant : Style → (instant : ℕ) → List ℕ
drawn_instant s k = instant_of_size s.size s k

-- a sending
unfoldable pub drawn_sending : Size → List ℕ
drawn_sending Full = codes "<path d=\"M-6 5h12l-6 -12z\" class=\"se\"/>"
drawn_sending Dots = codes "<path d=\"M-3 2h6l-3 -6z\" class=\"se\"/>"
drawn_sending Small = codes "<path d=\"M-2 1h4l-2 -4z\" class=\"se\"/>"

-- an activation that does nothing
unfoldable pub drawn_idleness : Size → List ℕ
drawn_idleness Full = codes "<path d=\"M0 -5v10\" class=\"no\"/>"
drawn_idleness Dots = codes "<path d=\"M0 -3v6\" class=\"no\"/>"
drawn_idleness Small = codes "<path d=\"M0 -2v4\" class=\"no\"/>"

-- what a mark says, and its shape
unfoldable pub execution_words : (instant : ℕ) → List ℕ
execution_words k = filled_template (codes " executes instant %</title>") (k ∷ [])

unfoldable pub drawn_execution : Style → (instant : ℕ) → List ℕ
drawn_execution s k = execution_words k ++ drawn_instant s k

unfoldable pub sending_words : (message : ℕ) → List ℕ
sending_words k = filled_template (codes " sends message %</title>") (k ∷ [])

unfoldable pub drawn_sent : Size → (message : ℕ) → List ℕ
drawn_sent size k = sending_words k ++ drawn_sending size

unfoldable pub drawn_idle : Size → List ℕ
drawn_idle size = codes " does nothing</title>" ++ drawn_idleness size

unfoldable pub drawn_sign : Style → Sign → List ℕ
drawn_sign s Nothing = drawn_idle s.size
drawn_sign s (Executes k) = drawn_execution s k
drawn_sign s (Sends k) = drawn_sent s.size k

-- the mark of an activation: at its time, on the line of its node
unfoldable pub mark_opening : Chart → Mark → List ℕ
mark_opening c m = filled_template (codes "<g transform=\"translate(% %)\"><title>event % at %: ") (x_at c m.time ∷ y_at c m.node ∷ m.event ∷ m.time ∷ [])

unfoldable pub drawn_name : (names : List (List ℕ)) → (node : ℕ) → List ℕ
drawn_name names node = escaped (row_name names node)

unfoldable pub drawn_mark : Chart → Style → (names : List (List ℕ)) → Mark → List ℕ
drawn_mark c s names m = mark_opening c m ++ (drawn_name names m.node ++ (drawn_sign s m.sign ++ codes "</g>\n"))

-- one for each activation in the window, in their order
unfoldable pub mark_piece : Chart → Style → (names : List (List ℕ)) → Mark → List Mark → List ℕ
mark_piece c s names m later = piece_if (is_within c m.time) (drawn_mark c s names m)

unfoldable pub drawn_marks : Chart → Style → (names : List (List ℕ)) → List Mark → List ℕ
drawn_marks c s names ms = each_text (mark_piece c s names) ms
