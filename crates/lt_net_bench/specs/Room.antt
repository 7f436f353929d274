-- How many of what nodes and channels have, and for how much they have room.
use Rattle.std.specs.Prelude.{◌≡◌, ℕ, ◌<◌, ◌≤◌, [], length, map, slice_index_or}
use Rattle.lt_base.specs.Value.{ty_of}
use Rattle.lt_arch.specs.Readers.{node_count, chan_count}
use Rattle.lt_link.specs.Inbox.{no_inbox}
use Rattle.lt_place.specs.Layout.{part_of}
use Rattle.lt_net_node.specs.Payloads.{types_for}
use Rattle.lt_net_bench.specs.Bench.{BenchState}
use Rattle.lt_link.specs.Ports.{HasPorts}
use Rattle.lt_net_bench.specs.Routes.{AreRoutes, AreExits}
use Rattle.lt_net_bench.specs.Track.{track_at}

-- there is one of each for each node, and for each channel
pub record HasSizes {C M : Type 0} (p : BenchState C M) : Type 0 where
  pub machines : length p.machines ≡ length p.layout.nodes
  pub controllers : length p.controllers ≡ node_count p.shape
  pub executed : length p.executed ≡ node_count p.shape
  pub inboxes : length p.inboxes ≡ chan_count p.shape
  pub buffers : length p.buffers ≡ chan_count p.shape
  -- each inbox and each buffer has a payload of its channel's types
  pub inbox_types : (c : ℕ) → c < chan_count p.shape → map ty_of (slice_index_or p.inboxes c no_inbox).payload ≡ types_for p.layout p.shape c
  pub buffer_types : (c : ℕ) → c < chan_count p.shape → map ty_of (slice_index_or p.buffers c []) ≡ types_for p.layout p.shape c

-- there is room for each message, for each node's row and outputs, and for all cells
pub record HasSpace {C M : Type 0} (p : BenchState C M) : Type 0 where
  pub messages : (c : ℕ) → c < chan_count p.shape → length (types_for p.layout p.shape c) ≤ p.values
  pub inputs : (n : ℕ) → n < length p.layout.nodes → length (part_of p.layout n).feeds ≤ p.values
  pub outputs : (n : ℕ) → n < length p.layout.nodes → length (part_of p.layout n).outs ≤ p.outs
  pub tracks : length p.tracks ≡ length p.layout.outs
  pub cells : (y : ℕ) → y < length p.layout.outs → p.rows ≤ (track_at p.tracks y).room
  -- and it is known where values go
  pub routes : AreRoutes p.layout p.shape p.routes
  pub exits : AreExits p.layout p.exits
  -- and which channels are a node's
  pub ports : (n : ℕ) → n < node_count p.shape → HasPorts p.shape.channels n p.ports
