-- What the events of a schedule are drawn as.
use Rattle.std.specs.Prelude.{ℕ, ◌+◌, Bool, true, false, List, [], ◌∷◌, ◌++◌, map, suc, zero}
use Rattle.std.specs.List.{list_any}
use Rattle.lt_arch.specs.declared.chan.ChanKind.{ChanKind}
use Rattle.lt_arch.specs.declared.chan.ChanKind.TheVariants.{Data, Ack}
use Rattle.lt_arch.specs.declared.event.Deed.{Deed}
use Rattle.lt_arch.specs.declared.event.Deed.TheVariants as deed
use Rattle.lt_arch.specs.declared.event.Event.{Event}
use Rattle.lt_arch.specs.declared.event.Event.TheVariants.{Act, Del, End}
use Rattle.lt_arch.specs.declared.shape.Shape.{Shape}
use Rattle.lt_arch.specs.declared.timing.Timing.{Timing}
use Rattle.lt_arch.specs.State.{ChanState, State, start, executed_of}
use Rattle.lt_arch.specs.Readers.{chan_count, chan_of, from_of, to_of, dmax_of}
use Rattle.lt_arch.specs.Deeds.{deed_at}
use Rattle.lt_arch.specs.Step.{after}
use Rattle.lt_place_reads.specs.declared.crossing.Crossing.{Crossing}
use Rattle.lt_net_node.specs.Layout.{joins}
use Rattle.lt_audit.specs.Acts.{next_number}
use Rattle.lt_diagram.specs.declared.picture.Arrow.{Arrow}
use Rattle.lt_diagram.specs.declared.picture.Fate.{Fate}
use Rattle.lt_diagram.specs.declared.picture.Fate.TheVariants.{Delivered, Pending}
use Rattle.lt_diagram.specs.declared.picture.Ink.{Ink}
use Rattle.lt_diagram.specs.declared.picture.Ink.TheVariants.{Strong, Pale, Dashed}
use Rattle.lt_diagram.specs.declared.picture.Sign.{Sign}
use Rattle.lt_diagram.specs.declared.picture.Sign.TheVariants as sign
use Rattle.lt_tape.specs.declared.stroke.Stroke.{Stroke}
use Rattle.lt_tape.specs.declared.stroke.Stroke.TheVariants.{Point, Line, Edge}

-- the sign of a deed of a node that has executed so many instants: its next instant, or its message of that number, counted from 1
abbrev pub sign_of : Deed → (executed : ℕ) → Sign
sign_of deed.Nothing executed = sign.Nothing
sign_of deed.Execute executed = sign.Executes executed
sign_of deed.Send executed = sign.Sends executed

-- acknowledgements are dashed, and data stand out where something crosses
abbrev pub ink_by : ChanKind → (crossed : Bool) → Ink
ink_by Data true = Strong
ink_by Data false = Pale
ink_by Ack crossed = Dashed

-- that of channel c, with these crossings
abbrev pub ink_of : List Crossing → Shape → (c : ℕ) → Ink
ink_of cross s c = ink_by (chan_of s c).kind (list_any (joins (from_of s c) (to_of s c)) cross)

-- a message of channel c
abbrev pub arrow_of : List Crossing → Shape → (c sent come : ℕ) → Fate → Arrow
arrow_of cross s c sent come fate = record { ink = ink_of cross s c; from = from_of s c; to = to_of s c; sent = sent; come = come; fate = fate }

-- the send time of the oldest message in transit, or this where there is none
abbrev pub first_sent_or : (none : ℕ) → List ℕ → ℕ
first_sent_or none [] = none
first_sent_or none (sent ∷ later) = sent

-- what the event of this number is drawn as that happens in this state: an activation with its deed, a delivery with its channel's oldest message
abbrev pub stroke_of : List Crossing → Shape → (rows : ℕ) → State → (number : ℕ) → Event → Stroke
stroke_of cross s rows st number (Act n at) = Point (record { event = number; node = n; time = at; sign = sign_of (deed_at s rows st n) (executed_of st n) })
stroke_of cross s rows st number (Del c at) = Line (arrow_of cross s c (first_sent_or at (st.chan c).transit) at (Delivered number))
stroke_of cross s rows st number (End at) = Edge at

-- one for each event, in order, where so many events came before the first
abbrev pub strokes_from : List Crossing → Shape → Timing → (rows : ℕ) → State → (count : ℕ) → List Event → List Stroke
strokes_from cross s t rows st count [] = []
strokes_from cross s t rows st count (e ∷ es) = stroke_of cross s rows st (next_number count) e ∷ strokes_from cross s t rows (after s t rows st e) (count + 1) es

-- from the start
abbrev pub strokes_of : List Crossing → Shape → Timing → (rows : ℕ) → List Event → List Stroke
strokes_of cross s t rows es = strokes_from cross s t rows (start t.protocol) 0 es

-- a message of channel c that is in transit, up to when it is due
abbrev pub pending_arrow : List Crossing → Shape → Timing → (c sent : ℕ) → Arrow
pending_arrow cross s t c sent = arrow_of cross s c sent (sent + dmax_of t (from_of s c) (to_of s c)) Pending

-- all messages of a channel that are in transit, where the channels are in these states
abbrev pub pending_on : List Crossing → Shape → Timing → (chan : ℕ → ChanState) → (c : ℕ) → List Arrow
pending_on cross s t chan c = map (pending_arrow cross s t c) (chan c).transit

-- those of the channels below n, one channel after another
abbrev pub arrows_below : (on : ℕ → List Arrow) → (n : ℕ) → List Arrow
arrows_below on zero = []
arrows_below on (suc c) = arrows_below on c ++ on c

-- and of all channels
abbrev pub pending_of : List Crossing → Shape → Timing → State → List Arrow
pending_of cross s t st = arrows_below (pending_on cross s t st.chan) (chan_count s)
