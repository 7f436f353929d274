-- The bounds that a list keeps while it is being drawn.
use Rattle.std.specs.Prelude.{◌≡◌, ℕ, ◌+◌, ◌<◌, ◌≤◌, List, [], ◌∷◌, Option, Some, None}
use Rattle.lt_arch.specs.declared.shape.Shape.{Shape}
use Rattle.lt_arch.specs.declared.timing.Timing.{Timing}
use Rattle.lt_arch.specs.Readers.{node_count, chan_count, from_of, to_of, tmin_of, tmax_of, dmin_of, dmax_of}
use Rattle.lt_lossy.specs.State.{Message}
use Rattle.lt_sim.specs.Standing.{IsRestPending}
use Rattle.lt_losing.specs.Losing.{LossyDraw}

-- a time, or 0
abbrev pub time_or_0 : Option ℕ → ℕ
time_or_0 None = 0
time_or_0 (Some at) = at

-- a message that was sent by now arrives at this time: no earlier than a time, and within the bounds of its delay
pub record IsArrival (dmin dmax now low : ℕ) (m : Message) (at : ℕ) : Type 0 where
  pub sent : m.sent_at ≤ now
  pub order : low ≤ at
  pub least : m.sent_at + dmin ≤ at
  pub most : at ≤ m.sent_at + dmax

-- so do these messages, each no earlier than the one before it
abbrev pub AreArrivals : (dmin dmax now low : ℕ) → List Message → List ℕ → Type 0
AreArrivals dmin dmax now low [] [] = Unit {0}
AreArrivals dmin dmax now low [] (at ∷ later) = ⊥
AreArrivals dmin dmax now low (m ∷ ms) [] = ⊥
AreArrivals dmin dmax now low (m ∷ ms) (at ∷ later) = IsArrival dmin dmax now low m at × AreArrivals dmin dmax now at ms later

-- all that is pending
pub record IsUpcoming (s : Shape) (t : Timing) (d : LossyDraw) : Type 0 where
  pub open_end : d.state.horizon ≡ None
  pub activations : (n : ℕ) → n < node_count s → IsRestPending (tmin_of t n) (tmax_of t n) (d.state.node n).last (d.activation n)
  pub forward : (n : ℕ) → n < node_count s → time_or_0 d.state.latest ≤ d.activation n
  pub arrivals : (c : ℕ) → c < chan_count s → AreArrivals (dmin_of t (from_of s c) (to_of s c)) (dmax_of t (from_of s c) (to_of s c)) (time_or_0 d.state.latest) (time_or_0 d.state.latest) (d.state.link c).transit (d.arrivals c)
