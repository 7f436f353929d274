-- Which lists that are being drawn a drawing stands for.
use Rattle.std.specs.Prelude.{◌≡◌, ℕ, ◌<◌, ◌≤◌, ◌+◌, ◌*◌, ◌^◌, nat_lt, true, false, List, [], ◌∷◌, length, Option, Some, None, slice_index_or, if◌then◌else◌}
use Rattle.rand_core.specs.Steps.{stream_of}
use Rattle.rand_xoshiro.specs.SplitMix64.{splitmix_steps}
use Rattle.lt_arch.specs.declared.event.Event.{Event}
use Rattle.lt_arch.specs.declared.limits.TheConstants.{GREATEST_TIME}
use Rattle.lt_arch.specs.declared.timing.Timing.{Timing}
use Rattle.lt_arch.specs.declared.shape.Shape.{Shape}
use Rattle.lt_arch.specs.State.{executed_of}
use Rattle.lt_arch.specs.Readers.{node_count, chan_count, from_of, to_of, tmin_of, tmax_of, dmin_of, dmax_of}
use Rattle.lt_arch.specs.Schedule.{IsOffenceFree, IsOnePlace, AreUpTo, reached}
use Rattle.lt_arch.specs.Shapes.{HaveSameNodes}
use Rattle.lt_rows.specs.Limits.{most_events}
use Rattle.lt_sim.specs.declared.drawing.Drawing.{Drawing}
use Rattle.lt_sim.specs.Words.{left_after}
use Rattle.lt_sim.specs.Drawn.{Draw, pending_at, next_due, beginning, drawn}
use Rattle.lt_sim.specs.Progress.{ProgressIsAt}
use Rattle.lt_sim.specs.Controlled.{AreControlled}
use Rattle.lt_sim.specs.Spans.{AreSpans}

-- the list that is being drawn keeps to the bounds

-- a pending activation of a node, by its last one
abbrev pub IsRestPending : (tmin tmax : ℕ) → (last : Option ℕ) → (at : ℕ) → Type 0
IsRestPending tmin tmax None at = at ≤ tmax
IsRestPending tmin tmax (Some last) at = (last + tmin ≤ at) × (at ≤ last + tmax)

-- a pending delivery, by what is in transit
abbrev pub IsTransitPending : (dmin dmax : ℕ) → (transit : List ℕ) → (pending : Option ℕ) → Type 0
IsTransitPending dmin dmax [] None = Unit {0}
IsTransitPending dmin dmax [] (Some at) = ⊥
IsTransitPending dmin dmax (sent ∷ []) None = ⊥
IsTransitPending dmin dmax (sent ∷ []) (Some at) = (sent + dmin ≤ at) × (at ≤ sent + dmax)
IsTransitPending dmin dmax (sent ∷ next ∷ later) pending = ⊥

-- no earlier than the latest event
abbrev pub IsNotBefore : (latest : Option ℕ) → (at : ℕ) → Type 0
IsNotBefore None at = Unit {0}
IsNotBefore (Some latest) at = latest ≤ at

-- all that is pending
pub record IsPending (s : Shape) (t : Timing) (d : Draw) : Type 0 where
  pub open_end : d.state.horizon ≡ None
  pub activations : (n : ℕ) → n < node_count s → IsRestPending (tmin_of t n) (tmax_of t n) (d.state.node n).last (d.activation n)
  pub deliveries : (c : ℕ) → c < chan_count s → IsTransitPending (dmin_of t (from_of s c) (to_of s c)) (dmax_of t (from_of s c) (to_of s c)) (d.state.chan c).transit (d.delivery c)
  pub forward : (place at : ℕ) → place < node_count s + chan_count s → pending_at s d place ≡ Some at → IsNotBefore d.state.latest at

-- it is where these events without an offence lead, and keeps to the bounds
pub record DrawKeeps (s : Shape) (t : Timing) (rows : ℕ) (front : List Event) (d : Draw) : Type 0 where
  pub state_is : d.state ≡ reached s t rows front
  pub timely : AreUpTo GREATEST_TIME front
  pub free : IsOffenceFree s t rows front
  pub one_place : IsOnePlace s d.state
  pub within : (n : ℕ) → n < node_count s → executed_of d.state n ≤ rows
  pub pending : IsPending s t d

-- a drawing has the words, the pending times and the counts of such a list
pub record DrawingStands (k : Drawing) (s : Shape) (t : Timing) (seed : ℕ) (d : Draw) : Type 0 where
  pub same : HaveSameNodes s t
  pub numbered : 2 * (node_count s + chan_count s) < 2 ^ 32
  pub left : stream_of splitmix_steps k.generator ≡ left_after seed d.words
  pub places : length k.pending ≡ node_count s + chan_count s
  pub pending : (place : ℕ) → place < node_count s + chan_count s → slice_index_or k.pending place None ≡ pending_at s d place
  pub controllers : AreControlled t (node_count s) (λ n. (d.state.node n).phase) k.controllers
  pub progress : ProgressIsAt k.progress s (executed_of d.state) (λ c. (d.state.chan c).delivered)
  pub messages : AreSpans s.channels true (node_count s) k.messages.items
  pub acks : AreSpans s.channels false (node_count s) k.acks.items

-- what happens next, where it is not past the horizon
abbrev pub unless_later : (horizon : ℕ) → Option (ℕ × ℕ) → Option (ℕ × ℕ)
unless_later horizon None = None
unless_later horizon (Some due) = if nat_lt horizon due.0 then None else Some due

-- it stands for a list that keeps to the bounds, in which this happens next
pub record IsDue (k : Drawing) (s : Shape) (t : Timing) (rows : ℕ) (due : ℕ × ℕ) : Type 0 where
  pub seed : ℕ
  pub draw : Draw
  pub stands : DrawingStands k s t seed draw
  pub front : List Event
  pub keeps : DrawKeeps s t rows front draw
  pub next : next_due s draw ≡ Some due

-- it stands for a list of which nothing is drawn but the first activations
abbrev pub DrawingStarts : Drawing → Shape → Timing → (seed : ℕ) → Type 0
DrawingStarts k s t seed = DrawingStands k s t seed (beginning s t seed)

-- and the list of that seed is not too long
pub record DrawsFewEvents (k : Drawing) (s : Shape) (t : Timing) (rows horizon : ℕ) : Type 0 where
  pub seed : ℕ
  pub starts : DrawingStarts k s t seed
  pub few : length (drawn s t rows seed horizon) ≤ most_events
