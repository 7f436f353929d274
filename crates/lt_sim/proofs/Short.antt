-- How many events a drawn list has at most.
use Rattle.std.proofs.Common.{◌≡◌, ℕ, ◌<◌, ◌≤◌, List, [], ◌∷◌, length, sym, subst}
use Rattle.std.specs.List.{All}
use Rattle.std.proofs.lemmas.List.Elements.{All-head, All-tail, All-weaker}
use Rattle.lt_arch.specs.declared.event.Event.{Event}
use Rattle.lt_arch.specs.declared.limits.TheConstants.{GREATEST_TIME}
use Rattle.lt_arch.specs.declared.shape.Shape.{Shape}
use Rattle.lt_arch.specs.declared.timing.Timing.{Timing}
use Rattle.lt_arch.specs.Readers.{node_count, chan_count, tmin_of}
use Rattle.lt_arch.specs.Schedule.{AreUpTo, IsEventOf, IsPlacedIn, OnePlace}
use Rattle.lt_arch.specs.Shapes.{HaveSameNodes}
use Rattle.lt_arch.proofs.Schedules.{offence_free}
use Rattle.lt_spaced.specs.Spaced.{EventsAreFew, IsLeastPeriod, most_spaced}
use Rattle.lt_sim.specs.Drawn.{drawn}
use Rattle.lt_sim.proofs.Ending.{drawn-sound}

-- the events of a shape are in the range of times
up_to : (s : Shape) (es : List Event) → All (IsEventOf s) es → AreUpTo GREATEST_TIME es
up_to s [] all = tt
up_to s (e ∷ es) all = ((All-head (IsEventOf s) e es all).timely, up_to s es (All-tail (IsEventOf s) e es all))

module _ (s : Shape) (t : Timing) (rows seed horizon least : ℕ) (one_place : OnePlace s t rows) (near : horizon ≤ GREATEST_TIME) (short : EventsAreFew) where
  -- the nodes, the channels, the least period, the horizon and the rows bound the number
  pub at_most : IsLeastPeriod s t least → length (drawn s t rows seed horizon) ≤ most_spaced (node_count s) (chan_count s) least rows horizon
  at_most spaced =
      let events = drawn s t rows seed horizon in
      let ok = drawn-sound s t rows seed horizon one_place near in
      short s t rows horizon least events one_place spaced (All-weaker (IsEventOf s) (IsPlacedIn s) (λ e is. is.placed) events ok.placed) (up_to s events ok.placed)
      (offence_free s t rows events ok.admissible) ok.ends

  -- by the periods of a timing
  pub at_most_by : HaveSameNodes s t → 0 < least → ((n : ℕ) → n < length t.nodes → least ≤ tmin_of t n) → (bound : ℕ) → bound ≡ most_spaced (node_count s) (chan_count s) least rows horizon → length (drawn s t rows seed horizon) ≤ bound
  at_most_by same some periods bound is =
      subst (λ (b : ℕ). length (drawn s t rows seed horizon) ≤ b) (sym is) (at_most (some, λ n below. periods n (subst (λ (count : ℕ). n < count) (sym same) below)))
