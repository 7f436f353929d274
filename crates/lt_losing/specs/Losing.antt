-- The list of events that a seed draws where links lose messages.
use Rattle.std.specs.Prelude.{ℕ, zero, suc, ◌+◌, ◌%◌, max, nat_lt, Bool, ◌&&◌, List, [], ◌∷◌, ◌++◌, drop, Option, Some, None, if◌then◌else◌}
use Rattle.lt_base.specs.Truths.{how_many}
use Rattle.lt_arch.specs.declared.event.Event.{Event}
use Rattle.lt_arch.specs.declared.event.Event.TheVariants.{Act, Del, End}
use Rattle.lt_arch.specs.declared.timing.Timing.{Timing}
use Rattle.lt_arch.specs.declared.shape.Shape.{Shape}
use Rattle.lt_arch.specs.Readers.{chan_count}
use Rattle.lt_arch.specs.Step.{updated, woken}
use Rattle.lt_lossy.specs.declared.event.LossyEvent.{LossyEvent}
use Rattle.lt_lossy.specs.declared.event.LossyEvent.TheVariants.{Plain, Lose}
use Rattle.lt_lossy.specs.State.{LossyState, lossy_start, plain_of}
use Rattle.lt_lossy.specs.Step.{sends_number, lossy_after}
use Rattle.lt_lossy.specs.Times.{oldest_in}
use Rattle.lt_sim.specs.Words.{drawn_word}
use Rattle.lt_sim.specs.Drawn.{Draw, next_due, due_event, beginning, gap, delay, most_to}

-- a list that is being drawn
pub record LossyDraw : Type 0 where
  -- the state of the architecture after the events so far
  pub state : LossyState
  -- when each node is activated next
  pub activation : ℕ → ℕ
  -- when the messages in transit on each channel arrive, oldest first
  pub arrivals : ℕ → List ℕ
  -- how many words were drawn
  pub words : ℕ

-- the same as a list over links without losses: the next arrival on a channel is its pending delivery
abbrev pub as_lossless : LossyDraw → Draw
as_lossless d = record { state = plain_of d.state; activation = d.activation; delivery = λ c. oldest_in (d.arrivals c); words = d.words }

-- the least of all pending times, and the lowest place that has it
abbrev pub next_lossy_due : Shape → LossyDraw → Option (ℕ × ℕ)
next_lossy_due s d = next_due s (as_lossless d)

-- Whether a message that arrives is lost, on a channel that has lost so many in a row, by the word of this number: one more may be lost, and the word is
-- below the rate, which is in thousandths.
abbrev pub loses_by : (limit rate seed : ℕ) → (losses number : ℕ) → Bool
loses_by limit rate seed losses number = nat_lt losses limit && nat_lt (drawn_word seed number % 1000) rate

-- Whether the message that arrives next on channel c is lost, by the next word. A word is drawn at each arrival, also where none may be lost, so that with
-- another rate the words stay the same while the events do.
abbrev pub loses_next : (limit rate seed : ℕ) → LossyDraw → (c : ℕ) → Bool
loses_next limit rate seed d c = loses_by limit rate seed (d.state.link c).losses (d.words + 1)

-- what happens where this event would over links without losses: in place of a delivery a message may be lost
abbrev pub lossy_or : (limit rate seed : ℕ) → LossyDraw → Event → LossyEvent
lossy_or limit rate seed d (Act n at) = Plain (Act n at)
lossy_or limit rate seed d (Del c at) = if loses_next limit rate seed d c then Lose c at else Plain (Del c at)
lossy_or limit rate seed d (End at) = Plain (End at)

-- the event of a place at its time
abbrev pub due_lossy_event : Shape → (limit rate seed : ℕ) → LossyDraw → (due : ℕ × ℕ) → LossyEvent
due_lossy_event s limit rate seed d due = lossy_or limit rate seed d (due_event s due)

-- before the first event: the first words draw the times of the nodes' first activations, and nothing is in transit
abbrev pub lossy_beginning : Shape → Timing → (seed : ℕ) → LossyDraw
lossy_beginning s t seed = record {
  state = lossy_start;
  activation = (beginning s t seed).activation;
  arrivals = λ c. [];
  words = (beginning s t seed).words;
}

-- whether node n sends on channel c when it is activated at a time: at each activation it sends anew what it counts there
abbrev pub sends_anew : Shape → Timing → (rows : ℕ) → LossyState → (n at c : ℕ) → Bool
sends_anew s t rows st n at c = sends_number s n (woken s t rows (plain_of st) n at) c

-- the last of these times, or another one where there is none
abbrev pub last_or : (other : ℕ) → List ℕ → ℕ
last_or other [] = other
last_or other (at ∷ later) = last_or at later

-- these arrivals and that of one more message, whose delay ends at a time: messages keep their order, so it arrives no earlier than the last one
abbrev pub with_arrival : List ℕ → (at : ℕ) → List ℕ
with_arrival arrivals at = arrivals ++ max (last_or 0 arrivals) at ∷ []

-- after an activation of node n: the next word draws the gap to its next one, and the words behind it the delays of the
-- messages that it sends, in the order of their channels
abbrev pub lossy_activated : Shape → Timing → (rows seed : ℕ) → LossyDraw → (n at : ℕ) → LossyDraw
lossy_activated s t rows seed d n at = record {
  state = lossy_after s t rows d.state (Plain (Act n at));
  activation = updated d.activation n (at + gap t seed n (d.words + 1));
  arrivals = λ c. if sends_anew s t rows d.state n at c then with_arrival (d.arrivals c) (at + delay s t seed c (d.words + 2 + how_many (sends_anew s t rows d.state n at) c)) else d.arrivals c;
  words = d.words + 1 + how_many (sends_anew s t rows d.state n at) (chan_count s);
}

-- after an event by which a message left channel c, as it was delivered or lost: one word was drawn
abbrev pub lossy_arrived : Shape → Timing → (rows : ℕ) → LossyDraw → (c : ℕ) → LossyEvent → LossyDraw
lossy_arrived s t rows d c e = record {
  state = lossy_after s t rows d.state e;
  activation = d.activation;
  arrivals = updated d.arrivals c (drop 1 (d.arrivals c));
  words = d.words + 1;
}

-- after an event; with the end the list is complete
unfoldable pub lossy_drawn_on : Shape → Timing → (rows seed : ℕ) → LossyDraw → LossyEvent → LossyDraw
lossy_drawn_on s t rows seed d (Plain (Act n at)) = lossy_activated s t rows seed d n at
lossy_drawn_on s t rows seed d (Plain (Del c at)) = lossy_arrived s t rows d c (Plain (Del c at))
lossy_drawn_on s t rows seed d (Plain (End at)) = d
lossy_drawn_on s t rows seed d (Lose c at) = lossy_arrived s t rows d c (Lose c at)

-- the end, where the least pending time is past the horizon, or what follows
abbrev pub unless_lossy_past : (horizon : ℕ) → Option (ℕ × ℕ) → (ℕ × ℕ → List LossyEvent) → List LossyEvent
unless_lossy_past horizon None later = Plain (End horizon) ∷ []
unless_lossy_past horizon (Some due) later = if nat_lt horizon due.0 then Plain (End horizon) ∷ [] else later due

-- the events from here on up to the horizon and then the end, at most so many before it
unfoldable pub lossy_events_to : Shape → Timing → (limit rows rate seed horizon : ℕ) → (most : ℕ) → LossyDraw → List LossyEvent
lossy_events_to s t limit rows rate seed horizon zero d = Plain (End horizon) ∷ []
lossy_events_to s t limit rows rate seed horizon (suc most) d =
    unless_lossy_past horizon (next_lossy_due s d)
    (λ due. due_lossy_event s limit rate seed d due ∷ lossy_events_to s t limit rows rate seed horizon most (lossy_drawn_on s t rows seed d (due_lossy_event s limit rate seed d due)))

-- The list of events that the seed draws for a horizon, with so many rows of inputs, where so many losses in a row are allowed on a channel, and so
-- many of a thousand messages are lost where they may be. No more events come than over links without losses: each node is activated at most once
-- a tick, and each channel delivers or loses at most one message for an activation.
unfoldable pub lossy_drawn : Shape → Timing → (limit rows rate seed horizon : ℕ) → List LossyEvent
lossy_drawn s t limit rows rate seed horizon = lossy_events_to s t limit rows rate seed horizon (most_to s horizon) (lossy_beginning s t seed)
