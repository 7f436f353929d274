-- Where a timing is accepted, no node executes with a message too few or too many.
use Rattle.std.specs.Prelude.{◌≡◌, ℕ, List, length}
use Rattle.lt_arch.specs.declared.event.Event.{Event}
use Rattle.lt_arch.specs.declared.limits.TheConstants.{GREATEST_TIME}
use Rattle.lt_arch.specs.declared.pace.Pace.{Pace}
use Rattle.lt_arch.specs.declared.shape.Shape.{Shape}
use Rattle.lt_arch.specs.declared.timing.Timing.{Timing}
use Rattle.lt_arch.specs.Paced.{FitsPace}
use Rattle.lt_arch.specs.Schedule.{AreUpTo, IsOffenceFree}
use Rattle.lt_timing.specs.Accepts.{Accepts}
use Rattle.lt_norm.specs.Flat.{Originated}
use Rattle.lt_place.specs.declared.layout.Layout.{Layout}
use Rattle.lt_place.specs.Layout.{IsPlaced}
use Rattle.lt_net_node.specs.Channels.{IsShapeOf}
use Rattle.lt_lead.specs.Paced.{IsShapeBy}
use Rattle.lt_audit.specs.Misses.{HasNoMiss}
use Rattle.lt_inspect.specs.Grounded.{IsClean}

-- with the shape of a placed layout, and an accepted timing of its nodes
abbrev pub AcceptedIsClean : Type 0
AcceptedIsClean =
    (f : Originated) (l : Layout) (s : Shape) (t : Timing) (rows : ℕ) → IsPlaced f l → IsShapeOf l t.protocol s → length t.nodes ≡ length l.names → Accepts t →
    (es : List Event) → AreUpTo GREATEST_TIME es → IsOffenceFree s t rows es → HasNoMiss s t rows es

-- and by any pace, with a timing that is one for it
abbrev pub PacedIsClean : Type 0
PacedIsClean =
    (f : Originated) (l : Layout) (s : Shape) (t : Timing) (pace : Pace) → IsPlaced f l → IsShapeBy l pace t s → length t.nodes ≡ length l.names → FitsPace pace t → IsClean s t
