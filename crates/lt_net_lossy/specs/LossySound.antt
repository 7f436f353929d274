-- What a network over links that lose messages needs of its layout, its shape and its timing.
use Rattle.std.specs.Prelude.{◌≡◌, ◌<◌, ◌+◌, ◌*◌, ◌^◌}
use Rattle.lt_arch.specs.declared.shape.Shape.{Shape}
use Rattle.lt_arch.specs.declared.timing.Timing.{Timing}
use Rattle.lt_arch.specs.declared.timing.Protocol.TheVariants.{BackPressure}
use Rattle.lt_arch.specs.Readers.{node_count, chan_count}
use Rattle.lt_arch.specs.Shapes.{HaveSameNodes}
use Rattle.lt_lossy.specs.Window.{HasWindow}
use Rattle.lt_place.specs.declared.layout.Layout.{Layout}
use Rattle.lt_net_node.specs.Channels.{FitsLayout}

-- the protocol is back-pressure, the shape fits the layout and the timing, the timing has the window, and there are few nodes and channels
pub record IsLossySound (l : Layout) (s : Shape) (t : Timing) : Type 0 where
  pub protocol : t.protocol ≡ BackPressure
  pub fits : FitsLayout l t.protocol s
  pub same_nodes : HaveSameNodes s t
  pub window : HasWindow t
  pub numbered : 2 * (node_count s + chan_count s) < 2 ^ 32
