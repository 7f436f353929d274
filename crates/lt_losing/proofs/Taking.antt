-- What happens at a place.
use Rattle.std.proofs.Common.{◌≡◌, ℕ, ◌+◌, ◌-◌, ◌%◌, ◌<◌, ◌≤◌, Some, Bool, true, false, ◌&&◌, nat_lt, length, if◌then◌else◌, sym, ◌∙◌, ap, subst, arith, slice_index_or, lt-ltb, le-ltb}
use Rattle.rand_core.specs.Stream.{next_u64}
use Rattle.rand_core.specs.Steps.{stream_of}
use Rattle.rand_xoshiro.specs.SplitMix64.{splitmix_steps}
use Rattle.lt_arch.specs.declared.event.Event.TheVariants.{Act, Del}
use Rattle.lt_arch.specs.declared.shape.Shape.{Shape}
use Rattle.lt_arch.specs.declared.timing.Timing.{Timing}
use Rattle.lt_arch.specs.Readers.{node_count, chan_count, from_of, to_of, dmin_of, dmax_of}
use Rattle.lt_lossy.specs.declared.event.LossyEvent.{LossyEvent}
use Rattle.lt_lossy.specs.declared.event.LossyEvent.TheVariants.{Plain, Lose}
use Rattle.lt_lossy.specs.Times.{oldest_in}
use Rattle.lt_sim.specs.Words.{drawn_word}
use Rattle.lt_sim.specs.Drawn.{pending_at, due_event}
use Rattle.lt_sim.proofs.Delays.{word-next}
use Rattle.lt_sim.proofs.Dues.{pending-chan, first}
use Rattle.lt_losing.specs.Losing.{LossyDraw, as_lossless, next_lossy_due, loses_next, lossy_or, due_lossy_event, lossy_activated, lossy_drawn_on}
use Rattle.lt_losing.specs.Bounds.{time_or_0, IsUpcoming}
use Rattle.lt_losing.specs.Held.{TakesOldest, LossyDrawingStands}
use Rattle.lt_losing.specs.declared.drawing.LossyDrawing.{LossyDrawing}
use Rattle.lt_losing.proofs.Arrivals.{some_transit}
use Rattle.lt_losing.proofs.Standing.{stands_del, stands_lose}

-- the place is one of the shape's
pub place-in : (s : Shape) (d : LossyDraw) (due : ℕ × ℕ) → next_lossy_due s d ≡ Some due → due.1 < node_count s + chan_count s
place-in s d due is = (first s (as_lossless d) due is).0

module _ (s : Shape) (t : Timing) (limit rate rows seed : ℕ) (d : LossyDraw) (at place : ℕ) where
  -- a node
  act-event : place < node_count s → due_event s (at, place) ≡ Act place at
  act-event lt = ap (λ (b : Bool). if b then Act place at else Del (place - node_count s) at) (lt-ltb place (node_count s) lt)

  pub act_due : place < node_count s → Plain (Act place at) ≡ due_lossy_event s limit rate seed d (at, place)
  act_due lt = ap (lossy_or limit rate seed d) (sym (act-event lt))

  pub act_stands : (new : LossyDrawing) → place < node_count s → LossyDrawingStands new s t seed (lossy_activated s t rows seed d place at)
      → LossyDrawingStands new s t seed (lossy_drawn_on s t rows seed d (due_lossy_event s limit rate seed d (at, place)))
  unfolding lossy_drawn_on
  act_stands new lt h = subst (λ (e : LossyEvent). LossyDrawingStands new s t seed (lossy_drawn_on s t rows seed d e)) (act_due lt) h

  -- or a channel
  module _ (k : LossyDrawing) (stands : LossyDrawingStands k s t seed d) (next : next_lossy_due s d ≡ Some (at, place)) (c : ℕ) (place_is : place ≡ node_count s + c) (lost : Bool)
      (lost_is : lost ≡ (nat_lt (slice_index_or k.losses.items c 0) limit && nat_lt ((next_u64 (stream_of splitmix_steps k.generator)).0 % 1000) rate)) where
    chan-in : c < chan_count s
    chan-in = let lt = place-in s d (at, place) next in omega (arith, lt, place_is)

    del-event : due_event s (at, place) ≡ Del c at
    del-event =
        let there : place - node_count s ≡ c = omega (arith, place_is) in
        ap (λ (b : Bool). if b then Act place at else Del (place - node_count s) at) (le-ltb place (node_count s) (omega (arith, place_is))) ∙ ap (λ i. Del i at) there

    loses-is : lost ≡ loses_next limit rate seed d c
    loses-is =
        let word : (next_u64 (stream_of splitmix_steps k.generator)).0 ≡ drawn_word seed (d.words + 1) = ap (λ stream. (next_u64 stream).0) stands.left ∙ sym (word-next seed d.words) in
        lost_is ∙ (λ i. nat_lt (stands.losses c chan-in i) limit && nat_lt (word i % 1000) rate)

    pub arrived_due : (if lost then Lose c at else Plain (Del c at)) ≡ due_lossy_event s limit rate seed d (at, place)
    arrived_due = ap (λ (b : Bool). if b then Lose c at else Plain (Del c at)) loses-is ∙ ap (lossy_or limit rate seed d) (sym del-event)

    arrived_by : (new : LossyDrawing) (b : Bool) → 1 ≤ length (d.state.link c).transit → TakesOldest k new c b → LossyDrawingStands new s t seed (lossy_drawn_on s t rows seed d (if b then Lose c at else Plain (Del c at)))
    unfolding lossy_drawn_on
    arrived_by new true some takes = stands_lose k new s t rows seed d stands c at chan-in some takes
    arrived_by new false some takes = stands_del k new s t rows seed d stands c at chan-in some takes

    pub arrived_stands : (new : LossyDrawing) → IsUpcoming s t d → TakesOldest k new c lost → LossyDrawingStands new s t seed (lossy_drawn_on s t rows seed d (due_lossy_event s limit rate seed d (at, place)))
    arrived_stands new upcoming takes =
        let pending : pending_at s (as_lossless d) place ≡ Some at = (first s (as_lossless d) (at, place) next).1 in
        let oldest : oldest_in (d.arrivals c) ≡ Some at = sym (pending-chan s (as_lossless d) c) ∙ (ap (pending_at s (as_lossless d)) (sym place_is) ∙ pending) in
        let some = some_transit (dmin_of t (from_of s c) (to_of s c)) (dmax_of t (from_of s c) (to_of s c)) (time_or_0 d.state.latest) (time_or_0 d.state.latest) at (d.state.link c).transit (d.arrivals c) (upcoming.arrivals c chan-in) oldest in
        subst (λ (e : LossyEvent). LossyDrawingStands new s t seed (lossy_drawn_on s t rows seed d e)) arrived_due (arrived_by new lost some takes)
