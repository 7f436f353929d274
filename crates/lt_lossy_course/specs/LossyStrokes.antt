-- What the events of a schedule are drawn as where links lose messages.
use Rattle.std.specs.Prelude.{ℕ, ◌+◌, ◌&&◌, nat_lt, List, [], ◌∷◌, map, slice_index_or}
use Rattle.std.specs.List.{list_any}
use Rattle.lt_arch.specs.declared.event.Event.TheVariants.{Act, Del, End}
use Rattle.lt_arch.specs.declared.shape.Shape.{Shape}
use Rattle.lt_arch.specs.declared.timing.Timing.{Timing}
use Rattle.lt_arch.specs.Readers.{chan_count, chan_of, from_of, to_of, dmax_of}
use Rattle.lt_arch.specs.Deeds.{deed_at}
use Rattle.lt_lossy.specs.declared.event.LossyEvent.{LossyEvent}
use Rattle.lt_lossy.specs.declared.event.LossyEvent.TheVariants.{Plain, Lose}
use Rattle.lt_lossy.specs.State.{LinkState, LossyState, Message, lossy_start, plain_of}
use Rattle.lt_lossy.specs.Step.{lossy_after}
use Rattle.lt_place_reads.specs.declared.crossing.Crossing.{Crossing}
use Rattle.lt_net_node.specs.Layout.{joins}
use Rattle.lt_audit.specs.Acts.{next_number}
use Rattle.lt_diagram.specs.declared.picture.Arrow.{Arrow}
use Rattle.lt_diagram.specs.declared.picture.Fate.{Fate}
use Rattle.lt_diagram.specs.declared.picture.Fate.TheVariants.{Delivered, Lost, Pending}
use Rattle.lt_diagram.specs.declared.picture.Ink.{Ink}
use Rattle.lt_tape.specs.declared.stroke.Stroke.{Stroke}
use Rattle.lt_tape.specs.declared.stroke.Stroke.TheVariants.{Point, Line, Edge}
use Rattle.lt_course.specs.Strokes.{arrows_below, ink_by, sign_of}

-- that of a message of this number on channel c, which has delivered this one as its newest: acknowledgements are dashed, and data stand out where
-- something crosses and the message is newer
abbrev pub lossy_ink_of : List Crossing → Shape → (c newest number : ℕ) → Ink
lossy_ink_of cross s c newest number = ink_by (chan_of s c).kind (list_any (joins (from_of s c) (to_of s c)) cross && nat_lt newest number)

-- such a message, up to a time
abbrev pub message_arrow : List Crossing → Shape → (c newest : ℕ) → Message → (come : ℕ) → Fate → Arrow
message_arrow cross s c newest m come fate = record { ink = lossy_ink_of cross s c newest m.number; from = from_of s c; to = to_of s c; sent = m.sent_at; come = come; fate = fate }

-- the message at this place, or where there is none one of number 0, sent at this time
abbrev pub placed_message : (at : ℕ) → List Message → (place : ℕ) → Message
placed_message at ms place = slice_index_or ms place (record { number = 0; sent_at = at })

-- the oldest message of channel c, which leaves it at a time
abbrev pub leaving_arrow : List Crossing → Shape → LossyState → (c at : ℕ) → Fate → Arrow
leaving_arrow cross s st c at fate = message_arrow cross s c (st.link c).newest (placed_message at (st.link c).transit 0) at fate

-- what the event of this number is drawn as that happens in this state: an activation with its deed, a delivery or a loss with its channel's oldest message
abbrev pub lossy_stroke_of : List Crossing → Shape → (rows : ℕ) → LossyState → (number : ℕ) → LossyEvent → Stroke
lossy_stroke_of cross s rows st number (Plain (Act n at)) = Point (record { event = number; node = n; time = at; sign = sign_of (deed_at s rows (plain_of st) n) (st.node n).executed })
lossy_stroke_of cross s rows st number (Plain (Del c at)) = Line (leaving_arrow cross s st c at (Delivered number))
lossy_stroke_of cross s rows st number (Plain (End at)) = Edge at
lossy_stroke_of cross s rows st number (Lose c at) = Line (leaving_arrow cross s st c at (Lost number))

-- one for each event, in order, where so many events came before the first
abbrev pub lossy_strokes_from : List Crossing → Shape → Timing → (rows : ℕ) → LossyState → (count : ℕ) → List LossyEvent → List Stroke
lossy_strokes_from cross s t rows st count [] = []
lossy_strokes_from cross s t rows st count (e ∷ es) = lossy_stroke_of cross s rows st (next_number count) e ∷ lossy_strokes_from cross s t rows (lossy_after s t rows st e) (count + 1) es

-- from the start
abbrev pub lossy_strokes_of : List Crossing → Shape → Timing → (rows : ℕ) → List LossyEvent → List Stroke
lossy_strokes_of cross s t rows es = lossy_strokes_from cross s t rows lossy_start 0 es

-- a message of channel c that is in transit, up to when it is due
abbrev pub pending_message : List Crossing → Shape → Timing → (c newest : ℕ) → Message → Arrow
pending_message cross s t c newest m = message_arrow cross s c newest m (m.sent_at + dmax_of t (from_of s c) (to_of s c)) Pending

-- all messages of a channel that are in transit, where the channels are in these states
abbrev pub lossy_pending_on : List Crossing → Shape → Timing → (link : ℕ → LinkState) → (c : ℕ) → List Arrow
lossy_pending_on cross s t link c = map (pending_message cross s t c (link c).newest) (link c).transit

-- and those of all channels
abbrev pub lossy_pending_of : List Crossing → Shape → Timing → LossyState → List Arrow
lossy_pending_of cross s t st = arrows_below (lossy_pending_on cross s t st.link) (chan_count s)
