-- The legend.
use Rattle.std.specs.Prelude.{ℕ, suc, ◌+◌, ◌-◌, ◌*◌, ◌/◌, ◌%◌, ◌++◌, min, max, Bool, true, false, List, [], ◌∷◌, length, is_some, codes, if◌then◌else◌}
use Rattle.std.specs.List.{list_any}
use Rattle.lt_diagram.specs.declared.picture.Picture.{Picture}
use Rattle.lt_diagram.specs.declared.picture.Arrow.{Arrow}
use Rattle.lt_diagram.specs.declared.picture.Ink.{Ink}
use Rattle.lt_diagram.specs.declared.picture.Ink.TheVariants.{Strong, Pale, Dashed}
use Rattle.lt_diagram.specs.declared.picture.Fate.{Fate}
use Rattle.lt_diagram.specs.declared.picture.Fate.TheVariants.{Delivered, Lost as Failed, Pending as Waiting}
use Rattle.lt_diagram.specs.declared.chart.Chart.{Chart}
use Rattle.lt_draw.specs.declared.legend.Entry.{Entry}
use Rattle.lt_draw.specs.declared.legend.Entry.TheVariants.{Executes, Sends, Nothing, Message, WithoutValues, Again, Acknowledgement, Lost, Pending, Tint, Ruled}
use Rattle.lt_diagram.specs.Chart.{bounded_width, bottom}
use Rattle.lt_diagram.specs.Arrows.{is_same_ink}
use Rattle.lt_svg.specs.Pieces.{filled_template}

-- what explains an entry
unfoldable pub entry_text : Entry → List ℕ
entry_text Executes = codes "<rect x=\"6\" y=\"-12\" width=\"16\" height=\"16\" rx=\"8\" class=\"ex\"/><text x=\"14\" y=\"-1\" class=\"exn m n\">3</text><text x=\"30\" class=\"ts s\">executes instant 3</text></g>\n"
entry_text Sends = codes "<path d=\"M8 1h12l-6 -12z\" class=\"se\"/><text x=\"30\" class=\"ts s\">sends</text></g>\n"
entry_text Nothing = codes "<path d=\"M6 -4h16\" class=\"nl\"/><path d=\"M14 -9v10\" class=\"no\"/><text x=\"30\" class=\"ts s\">does nothing</text></g>\n"
entry_text Message = codes "<path d=\"M4 -4h20\" class=\"da\" marker-end=\"url(#hda)\"/><text x=\"30\" class=\"ts s\">message</text></g>\n"
entry_text WithoutValues = codes "<path d=\"M4 -4h20\" class=\"em\" marker-end=\"url(#hem)\"/><text x=\"30\" class=\"ts s\">message without values</text></g>\n"
entry_text Again = codes "<path d=\"M4 -4h20\" class=\"em\" marker-end=\"url(#hem)\"/><text x=\"30\" class=\"ts s\">message with nothing new</text></g>\n"
entry_text Acknowledgement = codes "<path d=\"M4 -4h20\" class=\"ac\" marker-end=\"url(#hac)\"/><text x=\"30\" class=\"ts s\">acknowledgement</text></g>\n"
entry_text Lost = codes "<path d=\"M10 -8l8 8m0 -8l-8 8\" class=\"lo\"/><text x=\"30\" class=\"ts s\">lost</text></g>\n"
entry_text Pending = codes "<path d=\"M4 -4h20\" class=\"da w\"/><text x=\"30\" class=\"ts s\">on its way at the end</text></g>\n"
entry_text Tint = codes "<path d=\"M0 -11h9v14h-9z\" class=\"i0\"/><path d=\"M9 -11h9v14h-9z\" class=\"i1\"/><path d=\"M18 -11h9v14h-9z\" class=\"i2\"/><text x=\"30\" class=\"ts s\">instant of a node</text></g>\n"
entry_text Ruled = codes "<path d=\"M4 -4h19\" class=\"bad bd\"/><text x=\"30\" class=\"ts s\">ruled out by bounds</text></g>\n"

-- what became of a message
abbrev pub is_lost : Fate → Bool
is_lost (Delivered e) = false
is_lost (Failed e) = true
is_lost Waiting = false

abbrev pub is_pending : Fate → Bool
is_pending (Delivered e) = false
is_pending (Failed e) = false
is_pending Waiting = true

-- whether some arrow has an ink, is of a lost message, or of one on its way
unfoldable pub has_ink : Ink → List Arrow → Bool
has_ink i arrows = list_any (λ a. is_same_ink i a.ink) arrows

unfoldable pub has_lost : List Arrow → Bool
has_lost arrows = list_any (λ a. is_lost a.fate) arrows

unfoldable pub has_pending : List Arrow → Bool
has_pending arrows = list_any (λ a. is_pending a.fate) arrows

abbrev pub entry_if : Bool → Entry → List Entry
entry_if b e = if b then e ∷ [] else []

-- what is explained of deeds, of messages by their inks, and of what became of them
unfoldable pub deed_entries : List Entry
deed_entries = Executes ∷ [] ++ (Sends ∷ [] ++ Nothing ∷ [])

unfoldable pub pale_entries : (is_pale again : Bool) → List Entry
pale_entries is_pale again = if again then entry_if is_pale Again else entry_if is_pale WithoutValues

unfoldable pub message_entries : List Arrow → (again : Bool) → List Entry
message_entries arrows again = entry_if (has_ink Strong arrows) Message ++ (pale_entries (has_ink Pale arrows) again ++ entry_if (has_ink Dashed arrows) Acknowledgement)

unfoldable pub fate_entries : List Arrow → List Entry
fate_entries arrows = entry_if (has_lost arrows) Lost ++ (entry_if (has_pending arrows) Pending ++ Tint ∷ [])

-- what the legend of a picture explains
unfoldable pub entries_of : Picture → List Entry
entries_of p = deed_entries ++ (message_entries p.arrows p.again ++ (fate_entries p.arrows ++ entry_if (is_some p.offence) Ruled))

-- how many entries stand side by side
unfoldable pub columns : (width : ℕ) → ℕ
columns w = max ((bounded_width w - 24) / 180) 1

-- an entry at a place; all past the hundredth would stand at one
unfoldable pub drawn_entry : (columns top place : ℕ) → Entry → List ℕ
drawn_entry n top place e = filled_template (codes "<g transform=\"translate(% %)\">") ((12 + 180 * (min place 100 % n)) ∷ (top + 20 * (min place 100 / n)) ∷ []) ++ entry_text e

-- the entries from a place on
abbrev pub entries_from : (columns top place : ℕ) → List Entry → List ℕ
entries_from n top k [] = []
entries_from n top k (e ∷ es) = drawn_entry n top k e ++ entries_from n top (suc k) es

unfoldable pub drawn_legend : Chart → (width : ℕ) → List Entry → List ℕ
drawn_legend c w es = entries_from (columns w) (bottom c + 46) 0 es

-- how high it is
unfoldable pub legend_height : (width : ℕ) → List Entry → ℕ
legend_height w es = 20 * (min (length es) 100 / columns w + 1)
