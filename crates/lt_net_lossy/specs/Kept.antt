-- What no event changes.
use Rattle.std.specs.Prelude.{◌≡◌, ℕ, ◌^◌, ◌<◌, [], length, map, slice_index_or}
use Rattle.lt_base.specs.Value.{ty_of}
use Rattle.lt_base.specs.Program.{Function}
use Rattle.lt_arch.specs.declared.shape.Shape.{Shape}
use Rattle.lt_arch.specs.declared.timing.Timing.{Timing}
use Rattle.lt_arch.specs.declared.timing.Protocol.TheVariants.{BackPressure}
use Rattle.lt_arch.specs.Readers.{node_count, chan_count}
use Rattle.lt_arch.specs.Shapes.{IsBackPressureShape, HaveSameNodes}
use Rattle.lt_lossy.specs.Window.{HasWindow}
use Rattle.lt_place.specs.declared.layout.Layout.{Layout}
use Rattle.lt_net_node.specs.Channels.{HasChannels}
use Rattle.lt_net_node.specs.Layout.{IsLaidOut}
use Rattle.lt_net_node.specs.Payloads.{types_for}
use Rattle.lt_net_bench.specs.Room.{HasSizes}
use Rattle.lt_net_lossy.specs.Net.{LossyBenchState, bench_of_lossy}

-- the layout is that of a placed program, the shape that of the layout under back-pressure, and the timing has the window
pub record IsFixedLossy (l : Layout) (s : Shape) (t : Timing) : Type 0 where
  pub whole : Function
  pub laid : IsLaidOut whole l
  pub channels : HasChannels l s
  pub few : chan_count s < 2 ^ 32
  pub protocol : t.protocol ≡ BackPressure
  pub partners : IsBackPressureShape s
  pub same_nodes : HaveSameNodes s t
  pub window : HasWindow t

-- there is one of each for each node, and for each channel
pub record HasLossySizes {C M : Type 0} (net : LossyBenchState C M) : Type 0 where
  pub bench : HasSizes (bench_of_lossy net)
  pub lasts : length net.watch.lasts ≡ node_count net.shape
  pub queues : length net.watch.queues ≡ chan_count net.shape
  pub losses : length net.watch.losses ≡ chan_count net.shape
  pub sent : length net.sent ≡ node_count net.shape
  pub posted : length net.posted ≡ chan_count net.shape
  -- each payload that is sent again has its channel's types
  pub posted_types : (c : ℕ) → c < chan_count net.shape → map ty_of (slice_index_or net.posted c []) ≡ types_for net.layout net.shape c
