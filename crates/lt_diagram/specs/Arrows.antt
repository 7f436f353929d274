-- The arrows of messages.
use Rattle.std.specs.Prelude.{ℕ, ◌+◌, ◌-◌, ◌++◌, ◌&&◌, nat_le, nat_lt, count_by, Bool, true, false, List, [], ◌∷◌, codes, if◌then◌else◌}
use Rattle.lt_diagram.specs.declared.picture.Arrow.{Arrow}
use Rattle.lt_diagram.specs.declared.picture.Ink.{Ink}
use Rattle.lt_diagram.specs.declared.picture.Ink.TheVariants.{Strong, Pale, Dashed}
use Rattle.lt_diagram.specs.declared.picture.Fate.{Fate}
use Rattle.lt_diagram.specs.declared.picture.Fate.TheVariants.{Delivered, Lost, Pending}
use Rattle.lt_diagram.specs.declared.chart.Chart.{Chart}
use Rattle.lt_diagram.specs.Chart.{x_at, y_at, is_within, part_way}
use Rattle.lt_diagram.specs.Marks.{row_name}
use Rattle.lt_svg.specs.Pieces.{filled_template, escaped}
use Rattle.lt_diagram.specs.Template.{each_text, piece_if}

-- where an arrow to a node ends: so far before its line, on the side from which it comes
unfoldable pub tip : Chart → (from to before : ℕ) → ℕ
tip c from to before = if nat_lt from to then y_at c to - before else y_at c to + before

-- how far before it, by what became of the message
abbrev pub distance : Fate → (head : ℕ) → ℕ
distance (Delivered e) head = head
distance (Lost e) head = 13
distance Pending head = 0

-- a line between two places by two times, cut off at the window's edges, up to its class
unfoldable pub drawn_way : Chart → (start end sent come : ℕ) → List ℕ
drawn_way c start end sent come =
    filled_template (codes "<path d=\"M% %L% %\" class=\"")
    (x_at c sent ∷ part_way start end (c.from - sent) (come - sent) ∷ x_at c come ∷ part_way end start (come - c.to) (come - sent) ∷ [])

unfoldable pub ink_class : Ink → List ℕ
ink_class Strong = codes "da"
ink_class Pale = codes "em"
ink_class Dashed = codes "ac"

unfoldable pub kind_word : Ink → List ℕ
kind_word Strong = codes "data "
kind_word Pale = codes "data "
kind_word Dashed = codes "ack "

-- the head of an arrow of a message that was delivered in the window
abbrev pub head_by : Ink → List ℕ
head_by Strong = codes "\" marker-end=\"url(#hda)\"/>"
head_by Pale = codes "\" marker-end=\"url(#hem)\"/>"
head_by Dashed = codes "\" marker-end=\"url(#hac)\"/>"

unfoldable pub head_of : Ink → (is_whole : Bool) → List ℕ
head_of i is_whole = if is_whole then head_by i else codes "\"/>"

abbrev pub has_head : Fate → Chart → (come : ℕ) → Bool
has_head (Delivered e) c come = nat_le come c.to
has_head (Lost e) c come = false
has_head Pending c come = false

-- how its line is drawn: dotted while the message is on its way, thin where arrows are many
abbrev pub thinness : (is_thin : Bool) → List ℕ
thinness is_thin = if is_thin then codes " th" else []

unfoldable pub stroke : Fate → (is_thin : Bool) → List ℕ
stroke (Delivered e) is_thin = thinness is_thin
stroke (Lost e) is_thin = thinness is_thin
stroke Pending is_thin = codes " w"

-- what an arrow says
unfoldable pub event_words : Fate → List ℕ
event_words (Delivered e) = filled_template (codes "event %: ") (e ∷ [])
event_words (Lost e) = filled_template (codes "event %: ") (e ∷ [])
event_words Pending = []

unfoldable pub fate_words : Fate → List ℕ
fate_words (Delivered e) = codes ", sent at %, delivered at %</title>"
fate_words (Lost e) = codes ", sent at %, lost at %</title>"
fate_words Pending = codes ", sent at %, due by %</title>"

unfoldable pub ends_words : (names : List (List ℕ)) → (from to : ℕ) → List ℕ
ends_words names from to = escaped (row_name names from) ++ (codes "&gt;" ++ escaped (row_name names to))

unfoldable pub arrow_words : (names : List (List ℕ)) → Arrow → List ℕ
arrow_words names a =
    event_words a.fate ++ (kind_word a.ink ++ (ends_words names a.from a.to ++ filled_template (fate_words a.fate) (a.sent ∷ a.come ∷ [])))

-- the cross at which a lost message ends
unfoldable pub drawn_cross : Chart → Arrow → List ℕ
drawn_cross c a = filled_template (codes "<path d=\"M% %m-3 -3l7 7m0 -7l-7 7\" class=\"lo\"/>") (x_at c a.come ∷ tip c a.from a.to 13 ∷ [])

abbrev pub loss_by : Fate → Chart → Arrow → List ℕ
loss_by (Delivered e) c a = []
loss_by (Lost e) c a = piece_if (is_within c a.come) (drawn_cross c a)
loss_by Pending c a = []

unfoldable pub drawn_loss : Chart → Arrow → List ℕ
drawn_loss c a = loss_by a.fate c a

-- from the sender's line at the time of sending to the receiver's at the time of delivery
unfoldable pub drawn_shaft : Chart → (head : ℕ) → (is_thin : Bool) → Arrow → List ℕ
drawn_shaft c head is_thin a =
    drawn_way c (y_at c a.from) (tip c a.from a.to (distance a.fate head)) a.sent a.come
    ++ (ink_class a.ink ++ (stroke a.fate is_thin ++ head_of a.ink (has_head a.fate c a.come)))

unfoldable pub arrow_shape : Chart → (head : ℕ) → (is_thin : Bool) → Arrow → List ℕ
arrow_shape c head is_thin a = drawn_shaft c head is_thin a ++ (drawn_loss c a ++ codes "</g>\n")

-- the arrow of a message
unfoldable pub drawn_arrow : Chart → (names : List (List ℕ)) → (head : ℕ) → (is_thin : Bool) → Arrow → List ℕ
drawn_arrow c names head is_thin a =
    codes "<g><title>" ++ (arrow_words names a ++ arrow_shape c head is_thin a)

abbrev pub is_same_ink : Ink → Ink → Bool
is_same_ink Strong Strong = true
is_same_ink Strong Pale = false
is_same_ink Strong Dashed = false
is_same_ink Pale Strong = false
is_same_ink Pale Pale = true
is_same_ink Pale Dashed = false
is_same_ink Dashed Strong = false
is_same_ink Dashed Pale = false
is_same_ink Dashed Dashed = true

-- it has the ink that is asked for, and crosses the window
unfoldable pub is_drawn : Chart → Ink → Arrow → Bool
is_drawn c i a = is_same_ink i a.ink && (nat_le a.sent c.to && nat_le c.from a.come)

-- those of one ink, in their order; they are thin where there are more than 120
unfoldable pub is_crowded : Chart → Ink → List Arrow → Bool
is_crowded c i arrows = nat_lt 120 (count_by (is_drawn c i) arrows)

unfoldable pub arrow_piece : Chart → (names : List (List ℕ)) → (head : ℕ) → Ink → (is_thin : Bool) → Arrow → List Arrow → List ℕ
arrow_piece c names head i is_thin a later = piece_if (is_drawn c i a) (drawn_arrow c names head is_thin a)

unfoldable pub drawn_arrows : Chart → (names : List (List ℕ)) → (head : ℕ) → Ink → List Arrow → List ℕ
drawn_arrows c names head i arrows = each_text (arrow_piece c names head i (is_crowded c i arrows)) arrows
