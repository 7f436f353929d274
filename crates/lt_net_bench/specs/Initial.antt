-- What nodes and channels have before the first event.
use Rattle.std.specs.Prelude.{◌≡◌, ℕ, length, map, max, All, replicate}
use Rattle.lt_arch.specs.declared.shape.Shape.{Shape}
use Rattle.lt_arch.specs.Readers.{node_count}
use Rattle.lt_place.specs.declared.layout.Layout.{Layout}
use Rattle.lt_net_bench.specs.declared.initial.Initial.{Initial}
use Rattle.lt_net_node.specs.Local.{firsts}
use Rattle.lt_link.specs.Ports.{node_ports_of}
use Rattle.lt_net_bench.specs.Starts.{literals_on, first_inbox, route_to, exit_for, most_fed, most_given, IsBlank}

-- no node has executed, the inboxes and the payloads have the literals of what crosses, and there is room for so many rows
pub record IsInitial (l : Layout) (s : Shape) (rows : ℕ) (i : Initial) : Type 0 where
  pub executed : i.executed.items ≡ replicate (node_count s) 0
  pub inboxes : i.ends.inboxes.items ≡ map (first_inbox l.cross) s.channels
  pub buffers : i.ends.buffers.items ≡ map (literals_on l.cross) s.channels
  pub routes : i.tables.routes.items ≡ firsts (route_to l s.channels) (length l.cross)
  pub exits : i.tables.exits.items ≡ map (exit_for l.nodes) l.outs
  pub ports : i.tables.ports ≡ firsts (node_ports_of s.channels) (node_count s)
  pub track_count : length i.space.tracks.items ≡ length l.outs
  pub blank : All (IsBlank rows) i.space.tracks.items
  pub values : length i.space.values.items ≡ max (length l.cross) (most_fed l.nodes)
  pub outs : length i.space.outs.items ≡ most_given l.nodes
