-- The schedule file of a list of events over links that lose messages.
use Rattle.std.specs.Prelude.{ℕ, List, [], ◌∷◌, ◌++◌, codes}
use Rattle.std.specs.Fmt.{decimal}
use Rattle.lt_arch.specs.declared.chan.ChanKind.{ChanKind}
use Rattle.lt_arch.specs.declared.chan.ChanKind.TheVariants.{Data, Ack}
use Rattle.lt_arch.specs.declared.shape.Shape.{Shape}
use Rattle.lt_arch.specs.Readers.{chan_of}
use Rattle.lt_rows.specs.Events.{ends_text}
use Rattle.lt_rows.specs.Texts.{event_text}
use Rattle.lt_lossy.specs.declared.event.LossyEvent.{LossyEvent}
use Rattle.lt_lossy.specs.declared.event.LossyEvent.TheVariants.{Plain, Lose}
use Rattle.lt_sim.specs.File.{header_text}

-- the kind of a loss on a channel of this kind
abbrev pub loss_kind_text : ChanKind → List ℕ
loss_kind_text Data = codes "losedata"
loss_kind_text Ack = codes "loseack"

-- the line of an event: of a loss its time, its kind and the ends of its channel, with commas between
abbrev pub lossy_event_text : Shape → LossyEvent → List ℕ
lossy_event_text s (Plain e) = event_text s e
lossy_event_text s (Lose c at) = decimal at ++ 44 ∷ (loss_kind_text (chan_of s c).kind ++ 44 ∷ ends_text s (chan_of s c))

-- the rows of these events, each with its line feed
abbrev pub lossy_rows_text : Shape → List LossyEvent → List ℕ
lossy_rows_text s [] = []
lossy_rows_text s (e ∷ es) = (lossy_event_text s e ++ 10 ∷ []) ++ lossy_rows_text s es

-- the header and the rows
abbrev pub lossy_file_text : Shape → List LossyEvent → List ℕ
lossy_file_text s es = header_text ++ lossy_rows_text s es
