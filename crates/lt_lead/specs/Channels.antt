-- The channels of a layout where a node leads.
use Rattle.std.specs.Prelude.{◌≡◌, ℕ, ◌<◌, ◌==◌, ◌&&◌, ◌||◌, Bool, false, not, List, length}
use Rattle.std.specs.List.{list_any}
use Rattle.lt_arch.specs.declared.chan.Chan.{Chan}
use Rattle.lt_arch.specs.declared.chan.ChanKind.{ChanKind}
use Rattle.lt_arch.specs.declared.chan.ChanKind.TheVariants.{Data, Ack}
use Rattle.lt_arch.specs.declared.timing.Protocol.TheVariants.{TimeBased}
use Rattle.lt_arch.specs.declared.shape.Shape.{Shape}
use Rattle.lt_norm.specs.Flat.{Originated}
use Rattle.lt_place_reads.specs.declared.crossing.Crossing.{Crossing}
use Rattle.lt_place.specs.declared.layout.Layout.{Layout}
use Rattle.lt_place.specs.Layout.{IsPlaced}
use Rattle.lt_net_node.specs.Layout.{joins}
use Rattle.lt_net_node.specs.Channels.{all_chans, FitsLayout}
use Rattle.lt_lead.specs.Shapes.{IsLeaderShape}

-- from which node to which there is a channel of a kind: one for data from the leader to each other node and wherever something crosses, and
-- no other
abbrev pub is_leader_channel : List Crossing → (leader : ℕ) → ChanKind → (i j : ℕ) → Bool
is_leader_channel cross leader Data i j = not (i == j) && ((i == leader) || list_any (joins i j) cross)
is_leader_channel cross leader Ack i j = false

-- the channels of a layout's shape where a node leads, in order
abbrev pub lead_channels : Layout → (leader : ℕ) → List Chan
lead_channels l leader = all_chans (is_leader_channel l.cross leader) (length l.names)

-- the shape of a layout where a node leads
pub record IsLeadShapeOf (l : Layout) (leader : ℕ) (s : Shape) : Type 0 where
  pub nodes : s.nodes ≡ l.names
  pub channels : s.channels ≡ lead_channels l leader

-- that of a placed layout, where one of its nodes leads, fits the layout, and has a channel from the leader to each other node
abbrev pub LeadShapesFit : Type 0
LeadShapesFit =
    (f : Originated) (l : Layout) (leader : ℕ) (s : Shape) → IsPlaced f l → leader < length l.names → IsLeadShapeOf l leader s → FitsLayout l TimeBased s × IsLeaderShape s leader
