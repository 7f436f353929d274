-- What is held of a list that is being drawn.
use Rattle.std.specs.Prelude.{◌≡◌, ℕ, ◌+◌, ◌*◌, ◌^◌, ◌<◌, ◌==◌, ◌&&◌, ◌||◌, nat_lt, nat_le, Bool, true, false, not, List, [], ◌∷◌, ◌++◌, drop, length, map, Some, slice_set, slice_index_or, if◌then◌else◌}
use Rattle.rand_core.specs.Stream.{next_u64}
use Rattle.rand_core.specs.Steps.{stream_of}
use Rattle.rand_xoshiro.specs.SplitMix64.{splitmix_steps}
use Rattle.lt_arch.specs.declared.chan.Chan.{Chan}
use Rattle.lt_arch.specs.declared.shape.Shape.{Shape}
use Rattle.lt_arch.specs.declared.timing.Timing.{Timing}
use Rattle.lt_arch.specs.State.{Phase, Wait, Ready}
use Rattle.lt_arch.specs.Readers.{node_count, chan_count, from_of, carries_data, tmax_of}
use Rattle.lt_arch.specs.declared.event.Deed.{Deed}
use Rattle.lt_arch.specs.Deeds.{deed_of, all_below}
use Rattle.lt_arch.specs.Shapes.{HaveSameNodes}
use Rattle.lt_lossy.specs.State.{Message}
use Rattle.lt_sim.specs.Words.{left_after, drawn_word, number_in}
use Rattle.lt_sim.specs.Drawn.{delay}
use Rattle.lt_sim.specs.Tallies.{leads_kind_to}
use Rattle.lt_base.specs.Truths.{how_many}
use Rattle.lt_losing.specs.declared.drawing.LossyDrawing.{LossyDrawing}
use Rattle.lt_losing.specs.Losing.{LossyDraw, with_arrival, next_lossy_due}
use Rattle.lt_losing.specs.Bounds.{IsUpcoming}

-- the phase of a node's controller under back-pressure, by whether it has executed an instant that it has not sent
abbrev pub phase_when : Bool → Phase
phase_when true = Ready
phase_when false = Wait

-- each channel of a kind to node n, below a number, has delivered a message of at least this number
abbrev pub all_heard : List Chan → (newest : List ℕ) → (n number : ℕ) → (data_kind : Bool) → (below : ℕ) → Bool
all_heard cs newest n number data_kind below = all_below (λ c. not (leads_kind_to cs data_kind n c) || nat_le number (slice_index_or newest c 0)) below

-- what node n does then by what it has heard, where it has executed so many instants; whether some channel to it is fresh makes no difference
abbrev pub deed_heard : List Chan → (newest : List ℕ) → (n executed : ℕ) → (ready some left : Bool) → Deed
deed_heard cs newest n executed ready some left =
    deed_of (phase_when ready) (all_heard cs newest n executed true (length cs)) some (all_heard cs newest n executed false (length cs)) left

-- what a node that has sent and executed so many instants counts on channel c
abbrev pub count_on : Shape → (sent executed c : ℕ) → ℕ
count_on s sent executed c = if carries_data s c then sent else executed

-- whether node n sends there
abbrev pub sends_count : Shape → (n sent executed c : ℕ) → Bool
sends_count s n sent executed c = (from_of s c == n) && nat_lt 0 (count_on s sent executed c)

-- the first of some numbers, or 0
abbrev pub oldest_or_0 : List ℕ → ℕ
oldest_or_0 [] = 0
oldest_or_0 (number ∷ later) = number

-- each of n lists below a number was changed where a test passes
abbrev pub AreChanged : (n below : ℕ) → (on : ℕ → Bool) → (new : ℕ → List ℕ) → (xs ys : List (List ℕ)) → Type 0
AreChanged n below on new xs ys = (c : ℕ) → c < n → slice_index_or ys c [] ≡ (if nat_lt c below && on c then new c else slice_index_or xs c [])

-- on each of these channels below a number a message was sent at a time, of the number that the node counts there, and the words behind the first so many
-- drew its delay
pub record SendsAnew (s : Shape) (t : Timing) (seed words at below : ℕ) (on : ℕ → Bool) (number : ℕ → ℕ) (numbers arrivals numbers' arrivals' : List (List ℕ)) : Type 0 where
  pub numbers_length : length numbers' ≡ length numbers
  pub arrivals_length : length arrivals' ≡ length arrivals
  pub numbers_are : AreChanged (chan_count s) below on (λ c. slice_index_or numbers c [] ++ number c ∷ []) numbers numbers'
  pub arrivals_are : AreChanged (chan_count s) below on (λ c. with_arrival (slice_index_or arrivals c []) (at + delay s t seed c (words + 1 + how_many on c))) arrivals arrivals'

-- a message left channel c, as it was lost or delivered, and one word was drawn
pub record TakesOldest (old new : LossyDrawing) (c : ℕ) (lost : Bool) : Type 0 where
  pub left : stream_of splitmix_steps new.generator ≡ (next_u64 (stream_of splitmix_steps old.generator)).1
  pub activations : new.activations.items ≡ old.activations.items
  pub ready : new.ready.items ≡ old.ready.items
  pub executed : new.executed.items ≡ old.executed.items
  pub newest : new.newest.items ≡ slice_set old.newest.items c (if lost then slice_index_or old.newest.items c 0 else oldest_or_0 (slice_index_or old.numbers.items c []))
  pub losses : new.losses.items ≡ slice_set old.losses.items c (if lost then slice_index_or old.losses.items c 0 + 1 else 0)
  pub numbers : new.numbers.items ≡ slice_set old.numbers.items c (drop 1 (slice_index_or old.numbers.items c []))
  pub arrivals : new.arrivals.items ≡ slice_set old.arrivals.items c (drop 1 (slice_index_or old.arrivals.items c []))

-- all of so many nodes and channels are held
pub record HoldsAll (k : LossyDrawing) (nodes channels : ℕ) : Type 0 where
  pub activations : length k.activations.items ≡ nodes
  pub ready : length k.ready.items ≡ nodes
  pub executed : length k.executed.items ≡ nodes
  pub newest : length k.newest.items ≡ channels
  pub losses : length k.losses.items ≡ channels
  pub numbers : length k.numbers.items ≡ channels
  pub arrivals : length k.arrivals.items ≡ channels

-- a drawing has the words, the times and the counts of such a list
pub record LossyDrawingStands (k : LossyDrawing) (s : Shape) (t : Timing) (seed : ℕ) (d : LossyDraw) : Type 0 where
  pub same : HaveSameNodes s t
  pub numbered : 2 * (node_count s + chan_count s) < 2 ^ 32
  pub holds : HoldsAll k (node_count s) (chan_count s)
  pub left : stream_of splitmix_steps k.generator ≡ left_after seed d.words
  pub activations : (n : ℕ) → n < node_count s → slice_index_or k.activations.items n 0 ≡ d.activation n
  pub phases : (n : ℕ) → n < node_count s → (d.state.node n).phase ≡ phase_when (slice_index_or k.ready.items n false)
  pub executed : (n : ℕ) → n < node_count s → slice_index_or k.executed.items n 0 ≡ (d.state.node n).executed
  pub newest : (c : ℕ) → c < chan_count s → slice_index_or k.newest.items c 0 ≡ (d.state.link c).newest
  pub losses : (c : ℕ) → c < chan_count s → slice_index_or k.losses.items c 0 ≡ (d.state.link c).losses
  pub numbers : (c : ℕ) → c < chan_count s → slice_index_or k.numbers.items c [] ≡ map (λ (m : Message). m.number) (d.state.link c).transit
  pub arrivals : (c : ℕ) → c < chan_count s → slice_index_or k.arrivals.items c [] ≡ d.arrivals c

-- it stands for a list that keeps to the bounds, in which this happens next
pub record IsLossyDue (k : LossyDrawing) (s : Shape) (t : Timing) (due : ℕ × ℕ) : Type 0 where
  pub seed : ℕ
  pub draw : LossyDraw
  pub stands : LossyDrawingStands k s t seed draw
  pub upcoming : IsUpcoming s t draw
  pub next : next_lossy_due s draw ≡ Some due

-- the first activations of n nodes are drawn
pub record HasFirstTimes (t : Timing) (seed n : ℕ) (times : List ℕ) : Type 0 where
  pub size : length times ≡ n
  pub each : (i : ℕ) → i < n → slice_index_or times i 0 ≡ number_in 0 (tmax_of t i) (drawn_word seed (i + 1))
