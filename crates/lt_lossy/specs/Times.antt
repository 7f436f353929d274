-- The times that a watch over links that lose messages keeps, and which states have them.
use Rattle.std.specs.Prelude.{◌≡◌, ℕ, ◌+◌, ◌<◌, List, [], ◌∷◌, ◌++◌, length, map, drop, Option, Some, None, Bool, if◌then◌else◌, slice_index_or, slice_set}
use Rattle.lt_arch.specs.declared.timing.Timing.{Timing}
use Rattle.lt_arch.specs.declared.shape.Shape.{Shape}
use Rattle.lt_arch.specs.declared.chan.Chan.{Chan}
use Rattle.lt_arch.specs.declared.event.Event.TheVariants.{Act, Del, End}
use Rattle.lt_arch.specs.Step.{woken}
use Rattle.lt_lossy.specs.declared.event.LossyEvent.{LossyEvent}
use Rattle.lt_lossy.specs.declared.event.LossyEvent.TheVariants.{Plain, Lose}
use Rattle.lt_lossy.specs.State.{Message, LossyState, plain_of}
use Rattle.lt_lossy.specs.Step.{lossy_offence, lossy_after, sends_number}

pub record LossyTimes : Type 0 where
  pub timing : Timing
  pub channels : List Chan
  -- how many losses in a row are allowed
  pub limit : ℕ
  -- the last activation of each node
  pub lasts : List (Option ℕ)
  -- the send times of the messages in transit on each channel, oldest first
  pub queues : List (List ℕ)
  -- how many messages each channel lost since its last delivery
  pub losses : List ℕ
  -- the time of the last event, and the horizon once the end was taken
  pub latest : Option ℕ
  pub horizon : Option ℕ

abbrev pub last_at : LossyTimes → (n : ℕ) → Option ℕ
last_at w n = slice_index_or w.lasts n None

abbrev pub queue_at : LossyTimes → (c : ℕ) → List ℕ
queue_at w c = slice_index_or w.queues c []

abbrev pub losses_at : LossyTimes → (c : ℕ) → ℕ
losses_at w c = slice_index_or w.losses c 0

-- the first of a queue
abbrev pub oldest_in : List ℕ → Option ℕ
oldest_in [] = None
oldest_in (sent ∷ later) = Some sent

-- a state over this shape and timing, with so many losses allowed in a row, has these times
pub record HasLossyTimes (w : LossyTimes) (s : Shape) (t : Timing) (allowed : ℕ) (st : LossyState) : Type 0 where
  pub timing : w.timing ≡ t
  pub channels : w.channels ≡ s.channels
  pub limit : w.limit ≡ allowed
  pub node_count : length w.lasts ≡ length s.nodes
  pub queue_count : length w.queues ≡ length s.channels
  pub losses_count : length w.losses ≡ length s.channels
  pub last : (n : ℕ) → n < length s.nodes → last_at w n ≡ (st.node n).last
  pub transit : (c : ℕ) → c < length s.channels → map (λ (m : Message). m.sent_at) (st.link c).transit ≡ queue_at w c
  pub losses : (c : ℕ) → c < length s.channels → (st.link c).losses ≡ losses_at w c
  pub latest : w.latest ≡ st.latest
  pub horizon : w.horizon ≡ st.horizon

-- so it is for all states that have these times
abbrev pub WhereverHasTimes : LossyTimes → (Shape → Timing → (allowed : ℕ) → LossyState → Type 0) → Type 0
WhereverHasTimes w P = (s : Shape) (t : Timing) (allowed : ℕ) (st : LossyState) → HasLossyTimes w s t allowed st → P s t allowed st

-- the event's node or channel exists
abbrev pub IsLossyPlaced : LossyTimes → LossyEvent → Type 0
IsLossyPlaced w (Plain (Act n at)) = n < length w.lasts
IsLossyPlaced w (Plain (Del c at)) = c < length w.queues
IsLossyPlaced w (Plain (End at)) = Unit {0}
IsLossyPlaced w (Lose c at) = c < length w.queues

abbrev pub lossy_time_of : LossyEvent → ℕ
lossy_time_of (Plain (Act n at)) = at
lossy_time_of (Plain (Del c at)) = at
lossy_time_of (Plain (End at)) = at
lossy_time_of (Lose c at) = at

-- What is recorded.

abbrev pub with_last : LossyTimes → (n at : ℕ) → LossyTimes
with_last w n at = record w { lasts = slice_set w.lasts n (Some at); latest = Some at }

abbrev pub with_sent_on : LossyTimes → (c at : ℕ) → LossyTimes
with_sent_on w c at = record w { queues = slice_set w.queues c (queue_at w c ++ at ∷ []) }

abbrev pub without_oldest : LossyTimes → (c at : ℕ) → LossyTimes
without_oldest w c at = record w { queues = slice_set w.queues c (drop 1 (queue_at w c)); latest = Some at }

abbrev pub with_losses : LossyTimes → (c losses : ℕ) → LossyTimes
with_losses w c losses = record w { losses = slice_set w.losses c losses }

abbrev pub with_end : LossyTimes → (at : ℕ) → LossyTimes
with_end w at = record w { latest = Some at; horizon = Some at }

-- the queues after a message was sent on some channels
pub record AreQueued (on : ℕ → Bool) (at : ℕ) (before after : List (List ℕ)) : Type 0 where
  pub same_length : length after ≡ length before
  pub each : (c : ℕ) → c < length before → slice_index_or after c [] ≡ (if on c then slice_index_or before c [] ++ at ∷ [] else slice_index_or before c [])

-- what is recorded of an event without an offence leaves the times of the next state
pub record FollowsLossyEvents (w : LossyTimes) (s : Shape) (t : Timing) (allowed rows : ℕ) (st : LossyState) : Type 0 where
  -- an activation, and a message on each channel on which the node sends then
  pub activation : (n at : ℕ) (queues : List (List ℕ)) → n < length w.lasts → AreQueued (sends_number s n (woken s t rows (plain_of st) n at)) at w.queues queues →
      HasLossyTimes (record (with_last w n at) { queues = queues }) s t allowed (lossy_after s t rows st (Plain (Act n at)))
  pub delivery : (c at : ℕ) → c < length w.queues → lossy_offence s t allowed st (Plain (Del c at)) ≡ None →
      HasLossyTimes (with_losses (without_oldest w c at) c 0) s t allowed (lossy_after s t rows st (Plain (Del c at)))
  pub loss : (c at : ℕ) → c < length w.queues → lossy_offence s t allowed st (Lose c at) ≡ None →
      HasLossyTimes (with_losses (without_oldest w c at) c (losses_at w c + 1)) s t allowed (lossy_after s t rows st (Lose c at))
  pub ending : (at : ℕ) → HasLossyTimes (with_end w at) s t allowed (lossy_after s t rows st (Plain (End at)))
