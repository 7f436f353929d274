-- What a net keeps of its nodes and channels.
use Rattle.std.proofs.Common.{◌≡◌, length}
use Rattle.lt_arch.specs.Readers.{node_count, chan_count}
use Rattle.lt_net_bench.specs.Room.{HasSizes, HasSpace}
use Rattle.lt_net.specs.Net.{TimedBenchState, bench_of}
use Rattle.lt_net.specs.Kept.{IsSized, NetHasRoom}

module _ {C M : Type 0} (net : TimedBenchState C M) where
  pub sizes_of : IsSized net → HasSizes (bench_of net)
  sizes_of z = record {
    machines = z.machines;
    controllers = z.controllers;
    executed = z.executed;
    inboxes = z.inboxes;
    buffers = z.buffers;
    inbox_types = z.inbox_types;
    buffer_types = z.buffer_types;
  }

  pub space_of : NetHasRoom net → HasSpace (bench_of net)
  space_of z = record {
    messages = z.messages;
    inputs = z.inputs;
    outputs = z.outputs;
    tracks = z.tracks;
    cells = z.cells;
    routes = z.routes;
    exits = z.exits;
    ports = z.ports;
  }

  pub sized_by : HasSizes (bench_of net) → length net.watch.lasts ≡ node_count net.shape → length net.watch.sends ≡ chan_count net.shape → IsSized net
  sized_by z lasts sends = record {
    machines = z.machines;
    controllers = z.controllers;
    executed = z.executed;
    lasts = lasts;
    sends = sends;
    inboxes = z.inboxes;
    buffers = z.buffers;
    inbox_types = z.inbox_types;
    buffer_types = z.buffer_types;
  }

  pub room_by : HasSpace (bench_of net) → NetHasRoom net
  room_by z = record {
    messages = z.messages;
    inputs = z.inputs;
    outputs = z.outputs;
    tracks = z.tracks;
    cells = z.cells;
    routes = z.routes;
    exits = z.exits;
    ports = z.ports;
  }
