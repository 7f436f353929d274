-- A net that was started.
use Rattle.std.proofs.Common.{◌≡◌, ℕ, ◌+◌, ◌*◌, ◌^◌, ◌<◌, List, length, map, arith, All, replicate, max}
use Rattle.lt_base.specs.declared.value.Value.{Value}
use Rattle.lt_arch.specs.declared.shape.Shape.{Shape}
use Rattle.lt_arch.specs.declared.timing.Timing.{Timing}
use Rattle.lt_arch.specs.State.{start}
use Rattle.lt_arch.specs.Readers.{node_count, chan_count}
use Rattle.lt_arch.specs.Schedule.{OnePlace}
use Rattle.lt_arch.specs.Times.{Times, HasTimes}
use Rattle.lt_link.specs.Inbox.{InboxState}
use Rattle.lt_norm.specs.Flat.{Originated}
use Rattle.lt_place.specs.declared.layout.Layout.{Layout}
use Rattle.lt_place.specs.Layout.{IsPlaced}
use Rattle.lt_net_node.specs.declared.route.Route.{Route}
use Rattle.lt_net_bench.specs.declared.exit.Exit.{Exit}
use Rattle.lt_link.specs.declared.ports.Ports.{Ports}
use Rattle.lt_link.specs.Ports.{node_ports_of}
use Rattle.lt_net_node.specs.Local.{firsts}
use Rattle.lt_net.specs.Net.{TimedBenchState}
use Rattle.lt_net_bench.specs.Track.{TrackState}
use Rattle.lt_net_node.specs.Channels.{FitsLayout}
use Rattle.lt_net.specs.Stands.{NetStands}
use Rattle.lt_net.specs.Kept.{Kept, IsSized, NetHasRoom}
use Rattle.lt_net_bench.specs.Starts.{literals_on, first_inbox, route_to, exit_for, most_fed, most_given, IsBlank, AreReady, ControllersAreAtStart}
use Rattle.lt_net.specs.Starts.{no_lists, IsFresh}
use Rattle.lt_net_bench.proofs.Begun.{begun_at, none_executed, blank_at, sized_at, space_at}
use Rattle.lt_net.proofs.Benches.{sized_by, room_by}
use Rattle.lt_net.proofs.FixedParts.{fixed}
use Rattle.lt_machine.specs.declared.machine.Machine.{Ghosts as Machines}
use Rattle.lt_arch.specs.declared.controller.Controller.{Ghosts as Controls}

module _ {C M : Type 0} (ctl : Controls C) (mch : Machines M)
    (f : Originated) (l : Layout) (placed : IsPlaced f l) (s : Shape) (t : Timing) (rows : ℕ) (fits : FitsLayout l t.protocol s) (few : 2 * (node_count s + chan_count s) < 2 ^ 32) (one : OnePlace s t rows)
    (ms : List M) (ready : AreReady mch l rows ms) (cs : List C) (at_start : ControllersAreAtStart ctl s t cs) (watch : Times) (times : HasTimes watch s t (start t.protocol))
    (executed : List ℕ) (executed_are : executed ≡ replicate (node_count s) 0) (boxes : List InboxState) (boxes_are : boxes ≡ map (first_inbox l.cross) s.channels) (buffers : List (List Value)) (buffers_are : buffers ≡ map (literals_on l.cross) s.channels)
    (tracks : List TrackState) (tracks_count : length tracks ≡ length l.outs) (blank : All (IsBlank rows) tracks)
    (routes : List Route) (routes_are : routes ≡ firsts (route_to l s.channels) (length l.cross)) (exits : List Exit) (exits_are : exits ≡ map (exit_for l.nodes) l.outs)
    (ports : List Ports) (ports_are : ports ≡ firsts (node_ports_of s.channels) (node_count s)) (values outs : ℕ) (values_are : values ≡ max (length l.cross) (most_fed l.nodes)) (outs_are : outs ≡ most_given l.nodes) where
  abbrev net : TimedBenchState C M
  net = record {
    layout = l;
    shape = s;
    timing = t;
    rows = rows;
    watch = watch;
    machines = ms;
    controllers = cs;
    executed = executed;
    inboxes = boxes;
    buffers = buffers;
    tracks = tracks;
    routes = routes;
    exits = exits;
    ports = ports;
    values = values;
    outs = outs;
  }

  begun : NetStands ctl mch net no_lists
  begun = record {
    timely = tt;
    clean = tt;
    times = times;
    bench = begun_at ctl mch f l placed s t rows fits ms ready cs at_start executed executed_are boxes boxes_are buffers buffers_are tracks tracks_count blank routes routes_are exits exits_are ports ports_are values outs values_are outs_are;
  }

  pub fresh : IsFresh ctl mch net
  fresh = record {
    stands_for = begun;
    counts = none_executed ctl mch f l placed s t rows fits ms ready cs at_start executed executed_are boxes boxes_are buffers buffers_are tracks tracks_count blank routes routes_are exits exits_are ports ports_are values outs values_are outs_are;
    cells = λ y lt. (blank_at ctl mch f l placed s t rows fits ms ready cs at_start executed executed_are boxes boxes_are buffers buffers_are tracks tracks_count blank routes routes_are exits exits_are ports ports_are values outs values_are outs_are y lt).empty;
  }

  sized : IsSized net
  sized = sized_by net (sized_at ctl mch f l placed s t rows fits ms ready cs at_start executed executed_are boxes boxes_are buffers buffers_are tracks tracks_count blank routes routes_are exits exits_are ports ports_are values outs values_are outs_are) times.node_count times.chan_count

  pub kept : Kept ctl mch net
  kept = record { fixed = fixed f l s t rows placed fits one (omega (arith, few)); sized = sized; standing = (no_lists, begun) }

  pub room : NetHasRoom net
  room = room_by net (space_at ctl mch f l placed s t rows fits ms ready cs at_start executed executed_are boxes boxes_are buffers buffers_are tracks tracks_count blank routes routes_are exits exits_are ports ports_are values outs values_are outs_are)
