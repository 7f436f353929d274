-- Nodes and channels with bounds of time for as many nodes.
use Rattle.std.specs.Prelude.{◌<◌, ◌+◌, ◌*◌, ◌^◌, ℕ, List}
use Rattle.lt_arch.specs.declared.event.Event.{Event}
use Rattle.lt_arch.specs.declared.limits.TheConstants.{GREATEST_TIME}
use Rattle.lt_arch.specs.declared.shape.Shape.{Shape}
use Rattle.lt_arch.specs.declared.timing.Timing.{Timing}
use Rattle.lt_arch.specs.Readers.{node_count, chan_count}
use Rattle.lt_arch.specs.Schedule.{AreUpTo, IsOffenceFree}
use Rattle.lt_arch.specs.Shapes.{HaveSameNodes}
use Rattle.lt_timing.specs.Accepts.{Accepts}
use Rattle.lt_audit.specs.Misses.{HasNoMiss}

-- where the timing is accepted no list of events without an offence has a miss
abbrev pub IsClean : Shape → Timing → Type 0
IsClean s t = Accepts t → (rows : ℕ) (es : List Event) → AreUpTo GREATEST_TIME es → IsOffenceFree s t rows es → HasNoMiss s t rows es

-- the timing is of the nodes, there are few nodes and channels, and an accepted timing keeps them clean
abbrev pub IsGrounded : Shape → Timing → Type 0
IsGrounded s t = HaveSameNodes s t × (2 * (node_count s + chan_count s) < 2 ^ 32) × IsClean s t
