-- What a network needs of its layout, its shape and its timing.
use Rattle.std.specs.Prelude.{◌≡◌, ◌<◌, ◌≤◌, ◌+◌, ◌*◌, ◌^◌, ℕ, List, length}
use Rattle.lt_arch.specs.declared.event.Event.{Event}
use Rattle.lt_arch.specs.declared.limits.TheConstants.{GREATEST_TIME}
use Rattle.lt_arch.specs.declared.shape.Shape.{Shape}
use Rattle.lt_arch.specs.declared.timing.Timing.{Timing}
use Rattle.lt_arch.specs.declared.timing.Protocol.TheVariants.{TimeBased}
use Rattle.lt_arch.specs.Readers.{node_count, chan_count}
use Rattle.lt_arch.specs.Schedule.{AreUpTo, IsOffenceFree, OnePlace, reached}
use Rattle.lt_arch.specs.Shapes.{HaveSameNodes}
use Rattle.lt_timing.specs.Accepts.{Accepts}
use Rattle.lt_tb.specs.Rounds.{HasExactMessages}
use Rattle.lt_norm.specs.Flat.{Originated}
use Rattle.lt_place.specs.declared.layout.Layout.{Layout}
use Rattle.lt_place.specs.Layout.{IsPlaced}
use Rattle.lt_net_node.specs.Channels.{FitsLayout}
use Rattle.lt_net_replay.specs.Played.{IsLeastBound}
use Rattle.lt_arch.specs.declared.pace.Pace.{Pace}
use Rattle.lt_lead.specs.Paced.{KeepsPace, bound_by}

-- the shape and the timing are for some pace
abbrev pub FitsSomePace : Layout → Shape → Timing → Type 0
FitsSomePace l s t = (pace : Pace) × KeepsPace l s t pace

-- the shape fits the layout and the timing, one place in each channel is enough, under the time-based protocol instants are executed on exactly the
-- messages before them, and the bound of the pace is met
pub record PlanIsSound (l : Layout) (s : Shape) (t : Timing) (rows : ℕ) : Type 0 where
  pub fits : FitsLayout l t.protocol s
  pub same_nodes : HaveSameNodes s t
  pub one_place : OnePlace s t rows
  pub exact : t.protocol ≡ TimeBased → (es : List Event) → AreUpTo GREATEST_TIME es → IsOffenceFree s t rows es → HasExactMessages s t rows (reached s t rows es)
  pub paced : FitsSomePace l s t
  pub least : (pace : Pace) → KeepsPace l s t pace → IsLeastBound (bound_by pace) s t rows
  -- with few nodes there are few channels
  pub numbered : length l.names ≤ 32 → 2 * (node_count s + chan_count s) < 2 ^ 32

-- so it is wherever a placed layout has its shape by the pace, and a timing of its nodes is accepted
abbrev pub PlansAreSound : Type 0
PlansAreSound = (f : Originated) (l : Layout) (s : Shape) (t : Timing) (rows : ℕ) → IsPlaced f l → FitsSomePace l s t → length t.nodes ≡ length l.names → Accepts t → PlanIsSound l s t rows
