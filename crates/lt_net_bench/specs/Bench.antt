-- The nodes and channels of a network, as contracts see them, without time.
use Rattle.std.specs.Prelude.{ℕ, List}
use Rattle.lt_base.specs.declared.value.Value.{Value}
use Rattle.lt_arch.specs.declared.shape.Shape.{Shape}
use Rattle.lt_link.specs.Inbox.{InboxState}
use Rattle.lt_place.specs.declared.layout.Layout.{Layout}
use Rattle.lt_net_node.specs.declared.route.Route.{Route}
use Rattle.lt_net_bench.specs.declared.exit.Exit.{Exit}
use Rattle.lt_link.specs.declared.ports.Ports.{Ports}
use Rattle.lt_net_bench.specs.Track.{TrackState}

-- all that nodes and channels hold
pub record BenchState (C M : Type 0) : Type 0 where
  pub layout : Layout
  pub shape : Shape
  -- how many input rows there are
  pub rows : ℕ
  -- of each node
  pub machines : List M
  pub controllers : List C
  pub executed : List ℕ
  -- of each channel: its inbox, and its sender's payload of the instant that the sender executed last
  pub inboxes : List InboxState
  pub buffers : List (List Value)
  -- of each output
  pub tracks : List TrackState
  -- where the values of crossings and of outputs go
  pub routes : List Route
  pub exits : List Exit
  -- the channels of each node
  pub ports : List Ports
  -- for how many values, and for how many cells, a step has room
  pub values : ℕ
  pub outs : ℕ
