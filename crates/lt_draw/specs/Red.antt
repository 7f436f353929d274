-- What stands out: an event that is refused, or an execution with a message too few or too many.
use Rattle.std.specs.Prelude.{ℕ, ◌+◌, ◌-◌, ◌/◌, ◌++◌, nat_le, nat_lt, List, [], ◌∷◌, codes, if◌then◌else◌}
use Rattle.lt_diagram.specs.declared.picture.Offence.{Offence}
use Rattle.lt_diagram.specs.declared.picture.Ring.{Ring}
use Rattle.lt_diagram.specs.declared.picture.Wrong.{Wrong}
use Rattle.lt_diagram.specs.declared.picture.Wrong.TheVariants.{Moment, Absent, Soon, Untimely, Gone, Unsent}
use Rattle.lt_diagram.specs.declared.chart.Chart.{Chart}
use Rattle.lt_diagram.specs.Chart.{x_at, y_at, bottom}
use Rattle.lt_diagram.specs.Arrows.{tip, drawn_way}
use Rattle.lt_svg.specs.Pieces.{filled_template, escaped}

-- words beside a place, on the side with more room
abbrev pub note_template : Chart → (x : ℕ) → List ℕ
note_template c x = if nat_le x (c.left + c.breadth / 2) then codes "<text x=\"%\" y=\"%\" dx=\"5\" class=\"badt s b hl\">" else codes "<text x=\"%\" y=\"%\" dx=\"-5\" class=\"badt s b hl e\">"

unfoldable pub drawn_note : Chart → (x y : ℕ) → (words : List ℕ) → List ℕ
drawn_note c x y words =
    filled_template (note_template c x) (x ∷ y ∷ [])
    ++ ([] ++ (escaped words ++ codes "</text>\n"))

-- where the words on a node stand: above its line
unfoldable pub over : Chart → (node : ℕ) → ℕ
over c node = y_at c node - 13

-- a dashed ring where the activation of a node was due
unfoldable pub absence_mark : Chart → (node due : ℕ) → List ℕ
absence_mark c node due = filled_template (codes "<circle cx=\"%\" cy=\"%\" r=\"8\" class=\"bad\" stroke-dasharray=\"3 3\"/>") (x_at c due ∷ y_at c node ∷ [])

unfoldable pub drawn_absence : Chart → (node due : ℕ) → (words : List ℕ) → List ℕ
drawn_absence c node due words = absence_mark c node due ++ drawn_note c (x_at c due) (over c node) words

-- a cross where a node is activated, and a line from its last activation to the least time of the next
unfoldable pub haste_mark : Chart → (node last least time : ℕ) → List ℕ
haste_mark c node last least time =
    filled_template (codes "<path d=\"M% %H%m0 -7v14\" class=\"bad bd\"/><path d=\"M% %m-6 -6l12 12m0 -12l-12 12\" class=\"bad\"/>")
    (x_at c last ∷ y_at c node ∷ x_at c least ∷ x_at c time ∷ y_at c node ∷ [])

unfoldable pub drawn_haste : Chart → (node last least time : ℕ) → (words : List ℕ) → List ℕ
drawn_haste c node last least time words = haste_mark c node last least time ++ drawn_note c (x_at c time) (over c node) words

-- where the words on a message stand: beyond the line of its receiver
unfoldable pub beyond : Chart → (from to : ℕ) → ℕ
beyond c from to = if nat_lt from to then y_at c to + 16 else y_at c to - 9

-- from the sender's line to so far before the receiver's
unfoldable pub drawn_course : Chart → (from to before sent come : ℕ) → List ℕ
drawn_course c from to before sent come = drawn_way c (y_at c from) (tip c from to before) sent come

-- the red arrow of a message
unfoldable pub untimely_mark : Chart → (from to sent come : ℕ) → List ℕ
untimely_mark c from to sent come = drawn_course c from to 2 sent come ++ codes "bad bd\" marker-end=\"url(#hbad)\"/>"

unfoldable pub drawn_untimely : Chart → (from to sent come : ℕ) → (words : List ℕ) → List ℕ
drawn_untimely c from to sent come words = untimely_mark c from to sent come ++ drawn_note c (x_at c come) (beyond c from to) words

-- the red arrow of one that is lost, up to a cross
unfoldable pub gone_cross : Chart → (from to time : ℕ) → List ℕ
gone_cross c from to time = filled_template (codes "bad bd\"/><path d=\"M% %m-5 -5l10 10m0 -10l-10 10\" class=\"bad\"/>") (x_at c time ∷ tip c from to 13 ∷ [])

unfoldable pub gone_mark : Chart → (from to sent time : ℕ) → List ℕ
gone_mark c from to sent time = drawn_course c from to 13 sent time ++ gone_cross c from to time

unfoldable pub drawn_gone : Chart → (from to sent time : ℕ) → (words : List ℕ) → List ℕ
drawn_gone c from to sent time words = gone_mark c from to sent time ++ drawn_note c (x_at c time) (beyond c from to) words

-- the stub of one that nobody sent
unfoldable pub unsent_mark : Chart → (from to time : ℕ) → List ℕ
unsent_mark c from to time =
    filled_template (codes "<path d=\"M% %L% %\" class=\"bad bd\" marker-end=\"url(#hbad)\"/>") ((x_at c time - 24) ∷ tip c from to 30 ∷ x_at c time ∷ tip c from to 2 ∷ [])

unfoldable pub drawn_unsent : Chart → (from to time : ℕ) → (words : List ℕ) → List ℕ
drawn_unsent c from to time words = unsent_mark c from to time ++ drawn_note c (x_at c time) (beyond c from to) words

unfoldable pub drawn_wrong : Chart → (time : ℕ) → (words : List ℕ) → Wrong → List ℕ
drawn_wrong c time words Moment = []
drawn_wrong c time words (Absent node due) = drawn_absence c node due words
drawn_wrong c time words (Soon node last least) = drawn_haste c node last least time words
drawn_wrong c time words (Untimely from to sent come) = drawn_untimely c from to sent come words
drawn_wrong c time words (Gone from to sent) = drawn_gone c from to sent time words
drawn_wrong c time words (Unsent from to) = drawn_unsent c from to time words

-- red ground from a time on, with a line at it
unfoldable pub drawn_band : Chart → (time : ℕ) → List ℕ
drawn_band c time =
    filled_template (codes "<rect x=\"%\" y=\"%\" width=\"%\" height=\"%\" class=\"badz\"/><path d=\"M% %V%\" class=\"bad v\"/>\n")
    (x_at c time ∷ c.top ∷ (c.left + c.breadth - x_at c time) ∷ (bottom c - c.top) ∷ x_at c time ∷ (c.top - 4) ∷ (bottom c + 6) ∷ [])

-- a group opens under a title
unfoldable pub group_title : (title : List ℕ) → List ℕ
group_title title = codes "<g><title>" ++ (escaped title ++ codes "</title>")

-- where an event that is refused stands out, and its row
unfoldable pub drawn_row : Chart → Offence → List ℕ
drawn_row c o = drawn_note c (x_at c o.time) (c.top - 4) o.row

unfoldable pub drawn_spot : Chart → Offence → List ℕ
drawn_spot c o = drawn_wrong c o.time o.note o.wrong

unfoldable pub drawn_refusal : Chart → Offence → List ℕ
drawn_refusal c o = drawn_band c o.time ++ (drawn_row c o ++ drawn_spot c o)

-- all of it, under the line of its refusal
unfoldable pub drawn_offence : Chart → Offence → List ℕ
drawn_offence c o = group_title o.refusal ++ (drawn_refusal c o ++ codes "</g>\n")

-- a ring round an execution with a message too few or too many, and a line from it up to its words
unfoldable pub ring_circle : Chart → (above node time : ℕ) → List ℕ
ring_circle c above node time =
    filled_template (codes "<circle cx=\"%\" cy=\"%\" r=\"11\" class=\"bad\"/><path d=\"M% %V%\" class=\"bad bd\"/>") (x_at c time ∷ y_at c node ∷ x_at c time ∷ above ∷ (y_at c node - 11) ∷ [])

-- which event it is, on the side with more room
unfoldable pub ring_words : Chart → (above event time : ℕ) → List ℕ
ring_words c above event time = filled_template (note_template c (x_at c time)) (x_at c time ∷ above ∷ []) ++ filled_template (codes "event % at %</text></g>\n") (event ∷ time ∷ [])

unfoldable pub ring_mark : Chart → (above event node time : ℕ) → List ℕ
ring_mark c above event node time = ring_circle c above node time ++ ring_words c above event time

-- all of it, under the line that tells of it
unfoldable pub drawn_ring : Chart → (above : ℕ) → Ring → List ℕ
drawn_ring c above r = group_title r.line ++ ring_mark c above r.event r.node r.time
