-- The list of events that a seed draws.
use Rattle.std.specs.Prelude.{ℕ, zero, suc, ◌+◌, ◌-◌, ◌*◌, nat_lt, Bool, List, [], ◌∷◌, Option, Some, None, if◌then◌else◌}
use Rattle.lt_arch.specs.declared.event.Event.{Event}
use Rattle.lt_arch.specs.declared.event.Event.TheVariants.{Act, Del, End}
use Rattle.lt_arch.specs.declared.timing.Timing.{Timing}
use Rattle.lt_arch.specs.declared.shape.Shape.{Shape}
use Rattle.lt_arch.specs.State.{State, start}
use Rattle.lt_arch.specs.Readers.{node_count, chan_count, from_of, to_of, tmin_of, tmax_of, dmin_of, dmax_of}
use Rattle.lt_arch.specs.Deeds.{deed_at}
use Rattle.lt_arch.specs.Deadline.{least_below}
use Rattle.lt_arch.specs.Step.{after, sends_on, updated}
use Rattle.lt_sim.specs.Words.{drawn_word, number_in}
use Rattle.lt_base.specs.Truths.{how_many}

-- a list that is being drawn
pub record Draw : Type 0 where
  -- the state of the architecture after the events so far
  pub state : State
  -- when each node is activated next
  pub activation : ℕ → ℕ
  -- when each channel delivers next, if a delivery is pending
  pub delivery : ℕ → Option ℕ
  -- how many words were drawn
  pub words : ℕ

-- when a place happens next: the nodes come first, then the channels
unfoldable pub pending_at : Shape → Draw → (place : ℕ) → Option ℕ
pending_at s d place = if nat_lt place (node_count s) then Some (d.activation place) else d.delivery (place - node_count s)

-- the least of all pending times, and the lowest place that has it
abbrev pub next_due : Shape → Draw → Option (ℕ × ℕ)
next_due s d = least_below (pending_at s d) (node_count s + chan_count s)

-- the event of a place at its time
abbrev pub due_event : Shape → (due : ℕ × ℕ) → Event
due_event s due = if nat_lt due.1 (node_count s) then Act due.1 due.0 else Del (due.1 - node_count s) due.0

-- before the first event: the first words draw the times of the nodes' first activations, from 0 to the greatest period
abbrev pub beginning : Shape → Timing → (seed : ℕ) → Draw
beginning s t seed = record {
  state = start t.protocol;
  activation = λ n. number_in 0 (tmax_of t n) (drawn_word seed (n + 1));
  delivery = λ c. None;
  words = node_count s;
}

-- whether node n sends on channel c when it is activated
abbrev pub sends : Shape → Timing → (rows : ℕ) → State → (n c : ℕ) → Bool
sends s t rows st n c = sends_on s t n (deed_at s rows st n) c

-- the gap to node n's next activation, drawn with the word of this number
abbrev pub gap : Timing → (seed : ℕ) → (n number : ℕ) → ℕ
gap t seed n number = number_in (tmin_of t n) (tmax_of t n) (drawn_word seed number)

-- the delay of a message on channel c, drawn with the word of this number
abbrev pub delay : Shape → Timing → (seed : ℕ) → (c number : ℕ) → ℕ
delay s t seed c number = number_in (dmin_of t (from_of s c) (to_of s c)) (dmax_of t (from_of s c) (to_of s c)) (drawn_word seed number)

-- after an activation of node n: the next word draws the gap to its next one, and the words behind it the delays of the
-- messages that it sends, in the order of their channels
abbrev pub activated : Shape → Timing → (rows seed : ℕ) → Draw → (n at : ℕ) → Draw
activated s t rows seed d n at = record {
  state = after s t rows d.state (Act n at);
  activation = updated d.activation n (at + gap t seed n (d.words + 1));
  delivery = λ c. if sends s t rows d.state n c then Some (at + delay s t seed c (d.words + 2 + how_many (sends s t rows d.state n) c)) else d.delivery c;
  words = d.words + 1 + how_many (sends s t rows d.state n) (chan_count s);
}

-- after a delivery on channel c, which draws nothing
abbrev pub delivered : Shape → Timing → (rows : ℕ) → Draw → (c at : ℕ) → Draw
delivered s t rows d c at = record {
  state = after s t rows d.state (Del c at);
  activation = d.activation;
  delivery = updated d.delivery c None;
  words = d.words;
}

-- after an event; with the end the list is complete
unfoldable pub drawn_on : Shape → Timing → (rows seed : ℕ) → Draw → Event → Draw
drawn_on s t rows seed d (Act n at) = activated s t rows seed d n at
drawn_on s t rows seed d (Del c at) = delivered s t rows d c at
drawn_on s t rows seed d (End at) = d

-- the end, where the least pending time is past the horizon, or what follows
abbrev pub unless_past : (horizon : ℕ) → Option (ℕ × ℕ) → (ℕ × ℕ → List Event) → List Event
unless_past horizon None later = End horizon ∷ []
unless_past horizon (Some due) later = if nat_lt horizon due.0 then End horizon ∷ [] else later due

-- the events from here on up to the horizon and then the end, at most so many before it
unfoldable pub events_to : Shape → Timing → (rows seed horizon : ℕ) → (most : ℕ) → Draw → List Event
events_to s t rows seed horizon zero d = End horizon ∷ []
events_to s t rows seed horizon (suc most) d =
    unless_past horizon (next_due s d) (λ due. due_event s due ∷ events_to s t rows seed horizon most (drawn_on s t rows seed d (due_event s due)))

-- no more events than these can come up to the horizon: each node is activated at most once a tick, and each channel
-- delivers at most once for an activation
abbrev pub most_to : Shape → (horizon : ℕ) → ℕ
most_to s horizon = (horizon + 1) * (node_count s * (chan_count s + 1))

-- the list of events that the seed draws for a horizon, with so many rows of inputs
unfoldable pub drawn : Shape → Timing → (rows seed horizon : ℕ) → List Event
drawn s t rows seed horizon = events_to s t rows seed horizon (most_to s horizon) (beginning s t seed)
