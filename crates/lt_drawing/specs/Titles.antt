-- The lines of text of a picture.
use Rattle.std.specs.Prelude.{ℕ, ◌==◌, min, List, [], ◌∷◌, ◌++◌, codes, decimal, Option, Some, None, if◌then◌else◌}
use Rattle.lt_arch.specs.declared.event.Offence.{Offence}
use Rattle.lt_arch.specs.declared.event.Offence.TheVariants.{AfterEnd, Backwards, NodeOverdue, ChannelOverdue, TooSoon, NothingSent, TooEarly, NoEnd}
use Rattle.lt_arch.specs.declared.pace.Pace.{Pace}
use Rattle.lt_arch.specs.declared.pace.Pace.TheVariants.{Plain, Lossy, Leader}
use Rattle.lt_arch.specs.declared.shape.Shape.{Shape}
use Rattle.lt_arch.specs.declared.timing.Protocol.{Protocol}
use Rattle.lt_arch.specs.declared.timing.Protocol.TheVariants.{BackPressure, TimeBased}
use Rattle.lt_audit.specs.declared.miss.Miss.{Miss}
use Rattle.lt_lossy.specs.declared.event.LossyOffence.{LossyOffence}
use Rattle.lt_lossy.specs.declared.event.LossyOffence.TheVariants.{Common, TooManyLost}
use Rattle.lt_svg.specs.Paths.{base_name}
use Rattle.lt_svg.specs.Pieces.{filled_template}
use Rattle.lt_text_lines.specs.ScheduleLines.{channel_text, name_of_node}
use Rattle.lt_course.specs.declared.course.RefusedEvent.{RefusedEvent}
use Rattle.lt_tape.specs.declared.window.Window.{Window}

-- the names of the schedule and of the setup
abbrev pub title_text : (schedule config : List ℕ) → List ℕ
title_text schedule config = base_name schedule ++ codes " by " ++ base_name config

-- the protocol, as a setup calls it
abbrev pub protocol_text : Pace → Protocol → List ℕ
protocol_text Plain BackPressure = codes "backpressure"
protocol_text Plain TimeBased = codes "timebased"
protocol_text (Lossy losses) p = codes "lossy"
protocol_text (Leader leader) p = codes "leader"

-- how many nodes there are
abbrev pub nodes_text : (nodes : ℕ) → List ℕ
nodes_text nodes = if nodes == 1 then codes ", 1 node, " else filled_template (codes ", % nodes, ") (nodes ∷ [])

-- how many of all events are drawn
abbrev pub events_text : (shown all : ℕ) → List ℕ
events_text shown all = if shown == all then filled_template (codes "% events") (all ∷ []) else filled_template (codes "% of % events") (shown ∷ all ∷ [])

-- up to where, of a list that ends at this time
abbrev pub reach_text : (to end : ℕ) → List ℕ
reach_text to end = if to == end then [] else filled_template (codes " of %") (end ∷ [])

-- which ticks are drawn, of a list whose last event has this time, with an offence behind it or without
abbrev pub ticks_text : Window → (end : ℕ) → Option RefusedEvent → List ℕ
ticks_text w end None = filled_template (codes ", ticks % to %") (w.from ∷ min w.to end ∷ []) ++ reach_text (min w.to end) end
ticks_text w end (Some r) = filled_template (codes " before the offence, ticks % to %") (w.from ∷ w.to ∷ [])

-- that the messages of node n are drawn
abbrev pub messages_of_text : Shape → (n : ℕ) → List ℕ
messages_of_text s n = codes ", messages of " ++ name_of_node s n ++ codes " alone"

-- whose messages are drawn
abbrev pub alone_text : Shape → Option ℕ → List ℕ
alone_text s None = []
alone_text s (Some n) = messages_of_text s n

-- which event executes
abbrev pub execution_text : Shape → Miss → List ℕ
execution_text s m = codes "event " ++ decimal m.event ++ codes ": " ++ name_of_node s m.node

-- what it executes, and with how many messages of which channel
abbrev pub delivered_text : Shape → Miss → List ℕ
delivered_text s m = codes " executes " ++ decimal m.instant ++ codes " with " ++ decimal m.delivered ++ codes " of" ++ channel_text s m.channel

-- the first execution with a message too few or too many, as `audit` tells it
abbrev pub ring_text : Shape → Miss → List ℕ
ring_text s m = execution_text s m ++ delivered_text s m

-- the row of an event with this number
abbrev pub numbered_row : (number : ℕ) → (row : List ℕ) → List ℕ
numbered_row number row = codes "event " ++ decimal number ++ codes ": " ++ row

-- the row of an event with this number and offence
abbrev pub common_row_text : (number : ℕ) → (row : List ℕ) → Offence → List ℕ
common_row_text number row AfterEnd = numbered_row number row
common_row_text number row Backwards = numbered_row number row
common_row_text number row (NodeOverdue n) = numbered_row number row
common_row_text number row (ChannelOverdue c) = numbered_row number row
common_row_text number row (TooSoon n) = numbered_row number row
common_row_text number row (NothingSent c) = numbered_row number row
common_row_text number row (TooEarly c) = numbered_row number row
common_row_text number row NoEnd = codes "no end"

-- as it stands beside a refusal
abbrev pub refused_row_text : (number : ℕ) → (row : List ℕ) → LossyOffence → List ℕ
refused_row_text number row (Common o) = common_row_text number row o
refused_row_text number row (TooManyLost c) = numbered_row number row

-- what is wrong with it, with the tick by which it was due, or before which it was not
abbrev pub common_note_text : (bound : ℕ) → Offence → List ℕ
common_note_text bound AfterEnd = []
common_note_text bound Backwards = []
common_note_text bound (NodeOverdue n) = codes "due by " ++ decimal bound
common_note_text bound (ChannelOverdue c) = codes "due by " ++ decimal bound
common_note_text bound (TooSoon n) = codes "not before " ++ decimal bound
common_note_text bound (NothingSent c) = codes "nothing sent"
common_note_text bound (TooEarly c) = codes "not before " ++ decimal bound
common_note_text bound NoEnd = []

-- the same where a link may also lose too many messages
abbrev pub note_text : (bound : ℕ) → LossyOffence → List ℕ
note_text bound (Common o) = common_note_text bound o
note_text bound (TooManyLost c) = codes "too many lost"
