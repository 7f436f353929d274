-- How many events a list without an offence has at most.
use Rattle.std.specs.Prelude.{ℕ, ◌+◌, ◌*◌, ◌/◌, ◌<◌, ◌≤◌, List, length}
use Rattle.std.specs.List.{All}
use Rattle.lt_arch.specs.declared.event.Event.{Event}
use Rattle.lt_arch.specs.declared.limits.TheConstants.{GREATEST_TIME}
use Rattle.lt_arch.specs.declared.shape.Shape.{Shape}
use Rattle.lt_arch.specs.declared.timing.Timing.{Timing}
use Rattle.lt_arch.specs.Readers.{node_count, chan_count, tmin_of}
use Rattle.lt_arch.specs.Schedule.{AreUpTo, IsPlacedIn, IsOffenceFree, EndsAt, OnePlace}

-- no node has a shorter least period
abbrev pub IsLeastPeriod : Shape → Timing → (least : ℕ) → Type 0
IsLeastPeriod s t least = (0 < least) × ((n : ℕ) → n < node_count s → least ≤ tmin_of t n)

-- each node is activated once, and then at most once in each least period up to the horizon; each channel delivers at most a message
-- for each row of inputs and one more; and there is one end
abbrev pub most_spaced : (nodes channels least rows horizon : ℕ) → ℕ
most_spaced nodes channels least rows horizon = nodes * (horizon / least + 1) + channels * (rows + 1) + 1

-- where one place in each channel is enough, no list of events of the shape that keeps to the bounds up to a horizon is longer
abbrev pub EventsAreFew : Type 0
EventsAreFew =
    (s : Shape) (t : Timing) (rows horizon least : ℕ) (es : List Event) → OnePlace s t rows → IsLeastPeriod s t least → All (IsPlacedIn s) es → AreUpTo GREATEST_TIME es →
    IsOffenceFree s t rows es → EndsAt s t rows es horizon → length es ≤ most_spaced (node_count s) (chan_count s) least rows horizon
