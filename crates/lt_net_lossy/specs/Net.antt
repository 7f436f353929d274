-- A net over links that lose messages, as contracts see it.
use Rattle.std.specs.Prelude.{ℕ, List}
use Rattle.lt_base.specs.declared.value.Value.{Value}
use Rattle.lt_arch.specs.declared.shape.Shape.{Shape}
use Rattle.lt_arch.specs.declared.timing.Timing.{Timing}
use Rattle.lt_lossy.specs.declared.event.LossyEvent.{LossyEvent}
use Rattle.lt_lossy.specs.State.{LossyState}
use Rattle.lt_lossy.specs.Schedule.{lossy_reached}
use Rattle.lt_lossy.specs.Times.{LossyTimes}
use Rattle.lt_link.specs.Inbox.{InboxState}
use Rattle.lt_place.specs.declared.layout.Layout.{Layout}
use Rattle.lt_net_node.specs.declared.route.Route.{Route}
use Rattle.lt_net_bench.specs.declared.exit.Exit.{Exit}
use Rattle.lt_link.specs.declared.ports.Ports.{Ports}
use Rattle.lt_net_bench.specs.Bench.{BenchState}
use Rattle.lt_net_bench.specs.Track.{TrackState}

-- all that a net holds
pub record LossyBenchState (C M : Type 0) : Type 0 where
  pub layout : Layout
  pub shape : Shape
  pub timing : Timing
  -- how many input rows there are
  pub rows : ℕ
  pub watch : LossyTimes
  -- of each node, and how many instants it has executed and has sent
  pub machines : List M
  pub controllers : List C
  pub executed : List ℕ
  pub sent : List ℕ
  -- of each channel: its inbox, and its sender's payloads of the instant that the sender executed last and of the one that it sent last
  pub inboxes : List InboxState
  pub buffers : List (List Value)
  pub posted : List (List Value)
  -- of each output
  pub tracks : List TrackState
  -- where the values of crossings and of outputs go
  pub routes : List Route
  pub exits : List Exit
  -- the channels of each node
  pub ports : List Ports
  -- for how many values, and for how many cells, a step has room
  pub values : ℕ
  pub outs : ℕ

-- its nodes and channels, without time
abbrev pub bench_of_lossy : {C M : Type 0} → LossyBenchState C M → BenchState C M
bench_of_lossy net = record {
  layout = net.layout;
  shape = net.shape;
  rows = net.rows;
  machines = net.machines;
  controllers = net.controllers;
  executed = net.executed;
  inboxes = net.inboxes;
  buffers = net.buffers;
  tracks = net.tracks;
  routes = net.routes;
  exits = net.exits;
  ports = net.ports;
  values = net.values;
  outs = net.outs;
}

-- what a net stands for: the events, the input rows of each node, and of each channel a payload of each message from the first to the
-- newest: that of the copy that came last before the receiver ran on it
pub record LossyLists : Type 0 where
  pub events : List LossyEvent
  pub inputs : ℕ → List (List Value)
  pub got : ℕ → List (List Value)

-- the state after its events
abbrev pub lossy_state_of : {C M : Type 0} → LossyBenchState C M → LossyLists → LossyState
lossy_state_of net ls = lossy_reached net.shape net.timing net.rows ls.events

-- a net of nodes and channels, with time and what is sent again
abbrev pub lossy_bench_of : {C M : Type 0} → BenchState C M → Timing → LossyTimes → (sent : List ℕ) → (posted : List (List Value)) → LossyBenchState C M
lossy_bench_of p t watch sent posted = record {
  layout = p.layout;
  shape = p.shape;
  timing = t;
  rows = p.rows;
  watch = watch;
  machines = p.machines;
  controllers = p.controllers;
  executed = p.executed;
  sent = sent;
  inboxes = p.inboxes;
  buffers = p.buffers;
  posted = posted;
  tracks = p.tracks;
  routes = p.routes;
  exits = p.exits;
  ports = p.ports;
  values = p.values;
  outs = p.outs;
}
