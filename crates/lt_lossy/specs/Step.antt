-- One event over links that lose messages: an offence, or the next state.
use Rattle.std.specs.Prelude.{ℕ, ◌+◌, nat_lt, ◌==◌, List, [], ◌∷◌, ◌++◌, Option, Some, None, Bool, true, false, ◌&&◌, if◌then◌else◌}
use Rattle.lt_arch.specs.declared.event.Event.TheVariants.{Act, Del, End}
use Rattle.lt_arch.specs.declared.event.Offence.{Offence}
use Rattle.lt_arch.specs.declared.event.Offence.TheVariants.{AfterEnd, Backwards, NodeOverdue, ChannelOverdue, TooSoon, NothingSent, TooEarly, NoEnd}
use Rattle.lt_arch.specs.declared.timing.Timing.{Timing}
use Rattle.lt_arch.specs.declared.shape.Shape.{Shape}
use Rattle.lt_arch.specs.State.{NodeState}
use Rattle.lt_arch.specs.Readers.{from_of}
use Rattle.lt_arch.specs.Step.{offence_of, updated, woken}
use Rattle.lt_lossy.specs.declared.event.LossyEvent.{LossyEvent}
use Rattle.lt_lossy.specs.declared.event.LossyEvent.TheVariants.{Plain, Lose}
use Rattle.lt_lossy.specs.declared.event.LossyOffence.{LossyOffence}
use Rattle.lt_lossy.specs.declared.event.LossyOffence.TheVariants.{Common, TooManyLost}
use Rattle.lt_lossy.specs.State.{Message, LinkState, LossyState, plain_of, number_on}

-- Offences.

-- a loss is judged as a delivery would be, but it may come at any time after the send
abbrev pub at_any_time : Option Offence → Option Offence
at_any_time None = None
at_any_time (Some (TooEarly c)) = None
at_any_time (Some AfterEnd) = Some AfterEnd
at_any_time (Some Backwards) = Some Backwards
at_any_time (Some (NodeOverdue n)) = Some (NodeOverdue n)
at_any_time (Some (ChannelOverdue c)) = Some (ChannelOverdue c)
at_any_time (Some (TooSoon n)) = Some (TooSoon n)
at_any_time (Some (NothingSent c)) = Some (NothingSent c)
at_any_time (Some NoEnd) = Some NoEnd

-- of so many losses that are allowed in a row the channel had all
abbrev pub too_many_lost : (limit c losses : ℕ) → Option LossyOffence
too_many_lost limit c losses = if losses == limit then Some (TooManyLost c) else None

abbrev pub common_or : Option Offence → (later : Option LossyOffence) → Option LossyOffence
common_or None later = later
common_or (Some o) later = Some (Common o)

-- the first offence that applies, where so many losses in a row are allowed; an event that loses nothing is judged as without losses, on the oldest message of a channel
unfoldable pub lossy_offence : Shape → Timing → (limit : ℕ) → LossyState → LossyEvent → Option LossyOffence
lossy_offence s t limit st (Plain e) = common_or (offence_of s t (plain_of st) e) None
lossy_offence s t limit st (Lose c at) = common_or (at_any_time (offence_of s t (plain_of st) (Del c at))) (too_many_lost limit c (st.link c).losses)

-- The next state.

-- a channel on which a message was sent, or not
abbrev pub link_with_message : (sends : Bool) (number at : ℕ) → LinkState → LinkState
link_with_message true number at link = record link { transit = link.transit ++ record { number = number; sent_at = at } ∷ [] }
link_with_message false number at link = link

-- node n, which is v after its activation, sends on each channel from it the number that it counts there, but never 0
abbrev pub sends_number : Shape → (n : ℕ) → (v : NodeState) → (c : ℕ) → Bool
sends_number s n v c = (from_of s c == n) && nat_lt 0 (number_on s v c)

abbrev pub link_woken : Shape → (n at : ℕ) → (v : NodeState) → (c : ℕ) → LinkState → LinkState
link_woken s n at v c link = link_with_message (sends_number s n v c) (number_on s v c) at link

-- a channel that delivered the oldest message of its transit
abbrev pub link_delivered : LinkState → (transit : List Message) → LinkState
link_delivered link [] = link
link_delivered link (m ∷ later) = record { newest = m.number; transit = later; losses = 0 }

-- and one that lost it
abbrev pub link_lost : LinkState → (transit : List Message) → LinkState
link_lost link [] = link
link_lost link (m ∷ later) = record { newest = link.newest; transit = later; losses = link.losses + 1 }

-- the state after an event without an offence; of so many input rows each node executes at most all
unfoldable pub lossy_after : Shape → Timing → (rows : ℕ) → LossyState → LossyEvent → LossyState
lossy_after s t rows st (Plain (Act n at)) = record {
  node = updated st.node n (woken s t rows (plain_of st) n at);
  link = λ c. link_woken s n at (woken s t rows (plain_of st) n at) c (st.link c);
  latest = Some at;
  horizon = st.horizon;
}
lossy_after s t rows st (Plain (Del c at)) = record {
  node = st.node;
  link = updated st.link c (link_delivered (st.link c) (st.link c).transit);
  latest = Some at;
  horizon = st.horizon;
}
lossy_after s t rows st (Plain (End at)) = record { node = st.node; link = st.link; latest = Some at; horizon = Some at }
lossy_after s t rows st (Lose c at) = record {
  node = st.node;
  link = updated st.link c (link_lost (st.link c) (st.link c).transit);
  latest = Some at;
  horizon = st.horizon;
}

pub data LossyOutcome : Type 0 where
  LossyRefused : (offence : LossyOffence) → LossyOutcome
  LossyHappened : (next : LossyState) → LossyOutcome

abbrev pub lossy_outcome : Option LossyOffence → (next : LossyState) → LossyOutcome
lossy_outcome None next = LossyHappened next
lossy_outcome (Some o) next = LossyRefused o

-- one event: its offence, or the next state
abbrev pub lossy_step : Shape → Timing → (limit rows : ℕ) → LossyState → LossyEvent → LossyOutcome
lossy_step s t limit rows st e = lossy_outcome (lossy_offence s t limit st e) (lossy_after s t rows st e)
