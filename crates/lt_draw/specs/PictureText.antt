-- A picture as one SVG.
use Rattle.std.specs.Prelude.{ℕ, ◌+◌, ◌-◌, ◌++◌, List, [], Option, Some, None, codes}
use Rattle.lt_diagram.specs.declared.picture.Picture.{Picture}
use Rattle.lt_diagram.specs.declared.picture.Offence.{Offence}
use Rattle.lt_diagram.specs.declared.picture.Ring.{Ring}
use Rattle.lt_diagram.specs.declared.picture.Ink.TheVariants.{Strong, Pale, Dashed}
use Rattle.lt_diagram.specs.declared.chart.Chart.{Chart}
use Rattle.lt_diagram.specs.declared.marks.Style.{Style}
use Rattle.lt_draw.specs.declared.legend.Entry.{Entry}
use Rattle.lt_diagram.specs.Chart.{bottom}
use Rattle.lt_draw.specs.Heading.{chart_of, drawn_head, drawn_heading}
use Rattle.lt_diagram.specs.Marks.{style_of, arrow_end, drawn_marks}
use Rattle.lt_diagram.specs.Tints.{drawn_tints}
use Rattle.lt_diagram.specs.Axis.{drawn_axis, drawn_nodes}
use Rattle.lt_diagram.specs.Arrows.{drawn_arrows}
use Rattle.lt_draw.specs.Red.{drawn_offence, drawn_ring}
use Rattle.lt_draw.specs.Legend.{entries_of, drawn_legend, legend_height}

-- up to where nodes are at an instant: to the end of the window, or to an event that is refused
abbrev pub tint_end : Option Offence → (to : ℕ) → ℕ
tint_end None to = to
tint_end (Some o) to = o.time

-- what lies below the messages
unfoldable pub drawn_ground : Chart → Picture → List ℕ
drawn_ground c p = drawn_tints c (tint_end p.offence p.to) p.marks ++ (drawn_axis c ++ drawn_nodes c p.names)

-- the messages, the weaker ones below
unfoldable pub drawn_messages : Chart → Style → Picture → List ℕ
drawn_messages c s p =
    drawn_arrows c p.names (arrow_end s.size) Pale p.arrows
    ++ (drawn_arrows c p.names (arrow_end s.size) Dashed p.arrows ++ drawn_arrows c p.names (arrow_end s.size) Strong p.arrows)

-- where the words of a ring stand: above the rows, or below the words of a refusal
abbrev pub ring_words_at : Chart → Option Offence → ℕ
ring_words_at c None = c.top - 4
ring_words_at c (Some o) = c.top + 10

unfoldable pub drawn_miss : Chart → (above : ℕ) → Option Ring → List ℕ
drawn_miss c above None = []
drawn_miss c above (Some r) = drawn_ring c above r

unfoldable pub drawn_stop : Chart → Option Offence → List ℕ
drawn_stop c None = []
drawn_stop c (Some o) = drawn_offence c o

-- what stands out: an execution with a message too few or too many, and over it an event that is refused
unfoldable pub drawn_red : Chart → Option Offence → Option Ring → List ℕ
drawn_red c o r = drawn_miss c (ring_words_at c o) r ++ drawn_stop c o

-- the activations
unfoldable pub drawn_deeds : Chart → Style → Picture → List ℕ
drawn_deeds c s p = drawn_marks c s p.names p.marks

unfoldable pub drawn_rows : Chart → Style → Picture → List ℕ
drawn_rows c s p = drawn_ground c p ++ (drawn_messages c s p ++ (drawn_deeds c s p ++ drawn_red c p.offence p.ring))

-- with marks as large as there is room for
unfoldable pub styled_rows : Chart → Picture → List ℕ
styled_rows c p = drawn_rows c (style_of c p.marks) p

-- what stands before the rows
unfoldable pub drawn_above : Chart → Picture → List Entry → List ℕ
drawn_above c p es = drawn_head p (bottom c + 46 + legend_height p.width es) ++ drawn_heading p

-- all of it, by its chart and the entries of its legend
unfoldable pub charted_text : Chart → Picture → List Entry → List ℕ
charted_text c p es = drawn_above c p es ++ (styled_rows c p ++ (drawn_legend c p.width es ++ codes "</svg>\n"))

-- the whole text
unfoldable pub picture_text : Picture → List ℕ
picture_text p = charted_text (chart_of p) p (entries_of p)
