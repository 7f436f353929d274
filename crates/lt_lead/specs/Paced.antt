-- The shape and the bound of a network by the pace of its protocol.
use Rattle.std.specs.Prelude.{ℕ}
use Rattle.lt_arch.specs.declared.timing.Timing.{Timing}
use Rattle.lt_arch.specs.declared.timing.Protocol.TheVariants.{BackPressure}
use Rattle.lt_arch.specs.declared.shape.Shape.{Shape}
use Rattle.lt_timing.specs.Bounds.{bound_of}
use Rattle.lt_lossy.specs.Laws.{lossy_bound}
use Rattle.lt_place.specs.declared.layout.Layout.{Layout}
use Rattle.lt_net_node.specs.Channels.{IsShapeOf}
use Rattle.lt_arch.specs.declared.pace.Pace.{Pace}
use Rattle.lt_arch.specs.declared.pace.Pace.TheVariants.{Plain, Lossy, Leader}
use Rattle.lt_arch.specs.Paced.{FitsPace}
use Rattle.lt_lead.specs.Channels.{IsLeadShapeOf}
use Rattle.lt_lead.specs.Bounds.{lead_bound_of}

-- the shape of a layout: that of the timing's protocol, that of back-pressure where links lose messages, or the one in which a node leads
abbrev pub IsShapeBy : Layout → Pace → Timing → Shape → Type 0
IsShapeBy l Plain t s = IsShapeOf l t.protocol s
IsShapeBy l (Lossy losses) t s = IsShapeOf l BackPressure s
IsShapeBy l (Leader leader) t s = IsLeadShapeOf l leader s

-- how many instants node n has executed at least at a horizon: the bound of the timing's protocol, the one over links that lose messages, or
-- the one where a node leads
abbrev pub bound_by : Pace → Timing → (n horizon : ℕ) → ℕ
bound_by Plain t n horizon = bound_of t n horizon
bound_by (Lossy losses) t n horizon = lossy_bound t losses n horizon
bound_by (Leader leader) t n horizon = lead_bound_of t leader n horizon

-- the shape and the timing are for this pace
pub record KeepsPace (l : Layout) (s : Shape) (t : Timing) (pace : Pace) : Type 0 where
  pub shaped : IsShapeBy l pace t s
  pub fits : FitsPace pace t
