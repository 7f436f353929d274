-- What rounds keep and reach where a node leads.
use Rattle.std.specs.Prelude.{ℕ, ◌<◌, ◌≤◌, List, min}
use Rattle.lt_arch.specs.declared.event.Event.{Event}
use Rattle.lt_arch.specs.declared.limits.TheConstants.{GREATEST_TIME}
use Rattle.lt_arch.specs.declared.timing.Timing.{Timing}
use Rattle.lt_arch.specs.declared.shape.Shape.{Shape}
use Rattle.lt_arch.specs.Readers.{node_count}
use Rattle.lt_arch.specs.State.{executed_of}
use Rattle.lt_arch.specs.Schedule.{AreUpTo, OnePlace, IsOffenceFree, IsAdmissible, EndsAt, reached}
use Rattle.lt_arch.specs.Shapes.{HaveSameNodes}
use Rattle.lt_timing.specs.Accepts.{Accepts}
use Rattle.lt_tb.specs.Rounds.{HasExactMessages}
use Rattle.lt_arch.specs.Paced.{IsLed}
use Rattle.lt_lead.specs.Shapes.{IsLeaderShape}
use Rattle.lt_lead.specs.Bounds.{lead_bound_of}

-- with accepted timing, for every list of events in the range of times, a node that executes instant k has exactly message k delivered on
-- every incoming data channel
abbrev pub LeaderExecutesOnExactMessages : Type 0
LeaderExecutesOnExactMessages =
    (s : Shape) (t : Timing) (rows leader : ℕ) → IsLeaderShape s leader → HaveSameNodes s t → IsLed t leader → Accepts t →
    (es : List Event) → AreUpTo GREATEST_TIME es → IsOffenceFree s t rows es → HasExactMessages s t rows (reached s t rows es)

-- so one place in each channel is enough
abbrev pub LeaderKeepsOnePlace : Type 0
LeaderKeepsOnePlace = (s : Shape) (t : Timing) (rows leader : ℕ) → IsLeaderShape s leader → HaveSameNodes s t → IsLed t leader → Accepts t → OnePlace s t rows

-- where an admissible list ends at h, each node has executed as many instants as its bound, or every row
abbrev pub LeaderReachesBound : Type 0
LeaderReachesBound =
    (s : Shape) (t : Timing) (rows leader : ℕ) → IsLeaderShape s leader → HaveSameNodes s t → IsLed t leader → Accepts t →
    (es : List Event) (h n : ℕ) → AreUpTo GREATEST_TIME es → IsAdmissible s t rows es → EndsAt s t rows es h → n < node_count s →
    min (lead_bound_of t leader n h) rows ≤ executed_of (reached s t rows es) n
