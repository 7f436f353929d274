-- What back-pressure keeps and reaches over links that lose messages.
use Rattle.std.specs.Prelude.{◌≡◌, ℕ, ◌+◌, ◌*◌, ◌<◌, ◌≤◌, List, [], ◌∷◌, length, nat_lt, min, Option, Some, None, is_some, true, false, if◌then◌else◌}
use Rattle.lt_arch.specs.declared.event.Deed.TheVariants.{Execute, Send}
use Rattle.lt_arch.specs.declared.event.Event.TheVariants.{Del}
use Rattle.lt_arch.specs.declared.event.Offence.{Offence}
use Rattle.lt_arch.specs.declared.event.Offence.TheVariants.{AfterEnd, Backwards, NothingSent}
use Rattle.lt_arch.specs.declared.timing.Timing.{Timing}
use Rattle.lt_arch.specs.declared.shape.Shape.{Shape}
use Rattle.lt_arch.specs.Readers.{node_count, chan_count, from_of, to_of, carries_data, tmax_of, slowest_of, most_of}
use Rattle.lt_arch.specs.Deadline.{first_due}
use Rattle.lt_arch.specs.Deeds.{deed_at}
use Rattle.lt_arch.specs.Shapes.{IsBackPressureShape, HaveSameNodes}
use Rattle.lt_arch.specs.Step.{offence_or_else, where_true, is_backwards, overdue_by}
use Rattle.lt_timing.specs.Bounds.{instants_by}
use Rattle.lt_lossy.specs.declared.event.LossyEvent.{LossyEvent}
use Rattle.lt_lossy.specs.declared.event.LossyEvent.TheVariants.{Lose}
use Rattle.lt_lossy.specs.State.{Message, LossyState, plain_of, sent_count, number_on}
use Rattle.lt_lossy.specs.Step.{lossy_offence, common_or, too_many_lost}
use Rattle.lt_lossy.specs.Schedule.{lossy_reached, IsLossyOffenceFree, IsLossyAdmissible, LossyEndsAt}
use Rattle.lt_lossy.specs.Window.{HasWindow, room}

-- What a loss may break, in order: it comes after the end, before the last event, too late for a deadline, where nothing is in transit, or where all losses
-- that are allowed in a row were had.

abbrev pub nothing_sent : (c : ℕ) → List Message → Option Offence
nothing_sent c [] = Some (NothingSent c)
nothing_sent c (m ∷ later) = None

abbrev pub loss_offence : Shape → Timing → LossyState → (c at : ℕ) → Option Offence
loss_offence s t st c at =
    offence_or_else (where_true (is_some st.horizon) AfterEnd)
    (offence_or_else (where_true (is_backwards at st.latest) Backwards)
    (offence_or_else (overdue_by s (Del c at) (first_due s t (plain_of st))) (nothing_sent c (st.link c).transit)))

abbrev pub IsLossJudged : Shape → Timing → (limit : ℕ) → LossyState → (c at : ℕ) → Type 0
IsLossJudged s t limit st c at = lossy_offence s t limit st (Lose c at) ≡ common_or (loss_offence s t st c at) (too_many_lost limit c (st.link c).losses)

-- the numbers of these messages go up from low to high, of which each may come several times
abbrev pub Ascends : (low : ℕ) → List Message → (high : ℕ) → Type 0
Ascends low [] high = low ≤ high
Ascends low (m ∷ later) high = (low ≤ m.number) × Ascends m.number later high

-- What is known of each channel of a state that is reached without an offence.
pub record IsOrdered (s : Shape) (limit : ℕ) (st : LossyState) : Type 0 where
  -- the newest number that was delivered, those in transit from the oldest on, and what the sender counts now go up
  pub ascends : (c : ℕ) → c < chan_count s → Ascends (st.link c).newest (st.link c).transit (number_on s (st.node (from_of s c)) c)
  -- and no more are lost in a row than are allowed
  pub losses : (c : ℕ) → c < chan_count s → (st.link c).losses ≤ limit

-- the same where each channel has one that answers it: what a freshness bit needs
pub record IsOneAhead (s : Shape) (st : LossyState) : Type 0 where
  -- the sender counts at most one more than what was delivered, so each message in transit has the newest number or the next one
  pub next : (c : ℕ) → c < chan_count s → number_on s (st.node (from_of s c)) c ≤ (st.link c).newest + 1
  -- on a data channel the receiver's executed count or one less was delivered
  pub data_low : (c : ℕ) → c < chan_count s → carries_data s c ≡ true → (st.node (to_of s c)).executed ≤ (st.link c).newest + 1
  pub data_high : (c : ℕ) → c < chan_count s → carries_data s c ≡ true → (st.link c).newest ≤ (st.node (to_of s c)).executed
  -- on an acknowledgement channel the receiver's sent count or one more
  pub ack_low : (c : ℕ) → c < chan_count s → carries_data s c ≡ false → sent_count (st.node (to_of s c)) ≤ (st.link c).newest
  pub ack_high : (c : ℕ) → c < chan_count s → carries_data s c ≡ false → (st.link c).newest ≤ sent_count (st.node (to_of s c)) + 1

-- Node n, where it executes instant k at its next activation, has message k as the newest on each data channel to it; where it sends
-- message k, it has the acknowledgement of k executed instants on each acknowledgement channel to it.
pub record HasMessageNumbers (s : Shape) (rows : ℕ) (st : LossyState) (n : ℕ) : Type 0 where
  pub executes : deed_at s rows (plain_of st) n ≡ Execute → (c : ℕ) → c < chan_count s → to_of s c ≡ n → carries_data s c ≡ true → (st.link c).newest ≡ (st.node n).executed
  pub sends : deed_at s rows (plain_of st) n ≡ Send → (c : ℕ) → c < chan_count s → to_of s c ≡ n → carries_data s c ≡ false → (st.link c).newest ≡ (st.node n).executed

-- Over every list of events without an offence.

abbrev pub KeepsOrder : Type 0
KeepsOrder = (s : Shape) (t : Timing) (limit rows : ℕ) (es : List LossyEvent) → IsLossyOffenceFree s t limit rows es → IsOrdered s limit (lossy_reached s t rows es)

abbrev pub KeepsOneAhead : Type 0
KeepsOneAhead =
    (s : Shape) (t : Timing) (limit rows : ℕ) (es : List LossyEvent) → IsBackPressureShape s → IsLossyOffenceFree s t limit rows es → IsOneAhead s (lossy_reached s t rows es)

abbrev pub ReadsItsNumber : Type 0
ReadsItsNumber =
    (s : Shape) (t : Timing) (limit rows : ℕ) (es : List LossyEvent) (n : ℕ) → IsBackPressureShape s → IsLossyOffenceFree s t limit rows es → HasMessageNumbers s rows (lossy_reached s t rows es) n

-- no channel has more messages in transit than there is room for
abbrev pub KeepsRoom : Type 0
KeepsRoom =
    (s : Shape) (t : Timing) (limit rows : ℕ) (es : List LossyEvent) (c : ℕ) → HaveSameNodes s t → HasWindow t → IsLossyOffenceFree s t limit rows es → c < chan_count s →
    length ((lossy_reached s t rows es).link c).transit ≤ room

-- A message of a number is sent at as many activations as may be lost and one more, so a cycle has so many of them twice.

abbrev pub lossy_cycle : Timing → (limit : ℕ) → ℕ
lossy_cycle t limit = 2 * (slowest_of t + limit * slowest_of t + most_of t)

-- how many instants node n has executed at least where a list ends at a horizon, while inputs last
abbrev pub lossy_bound : Timing → (limit n horizon : ℕ) → ℕ
lossy_bound t limit n horizon =
    if nat_lt horizon (tmax_of t n) then 0 else (if nat_lt horizon (slowest_of t) then 1 else instants_by (slowest_of t) (lossy_cycle t limit) horizon)

-- where an admissible list ends at h, each node has executed as many instants as its bound, or every row
abbrev pub ReachesLossyBound : Type 0
ReachesLossyBound =
    (s : Shape) (t : Timing) (limit rows : ℕ) (es : List LossyEvent) (h n : ℕ) → IsBackPressureShape s → HaveSameNodes s t →
    IsLossyAdmissible s t limit rows es → LossyEndsAt s t rows es h → n < node_count s →
    min (lossy_bound t limit n h) rows ≤ ((lossy_reached s t rows es).node n).executed
