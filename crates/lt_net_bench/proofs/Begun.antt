-- Nodes and channels before the first event.
use Rattle.std.proofs.Common.{◌≡◌, ℕ, zero, suc, ◌-◌, ◌<◌, ◌≤◌, List, [], length, map, Some, refl, sym, ap, ◌∙◌, arith, All, replicate, max}
use Rattle.std.specs.Prelude.{slice_index_or, filter, if◌then◌else◌}
use Rattle.std.specs.List.{slice_get}
use Rattle.std.proofs.Math.Nat.{le-max_left, le-max_right}
use Rattle.std.proofs.lemmas.List.{length-map, length-replicate, get_or-replicate}
use Rattle.lt_base.specs.declared.value.Value.{Value}
use Rattle.lt_base.specs.Value.{ty_of}
use Rattle.lt_arch.specs.declared.shape.Shape.{Shape}
use Rattle.lt_arch.specs.declared.timing.Timing.{Timing}
use Rattle.lt_arch.specs.declared.timing.Protocol.{Protocol}
use Rattle.lt_arch.specs.declared.timing.Protocol.TheVariants.{BackPressure, TimeBased}
use Rattle.lt_arch.specs.State.{start, unsent, first_phase}
use Rattle.lt_arch.specs.Readers.{node_count, chan_of, from_of, to_of}
use Rattle.lt_arch.proofs.Ranges.{greatest-above}
use Rattle.lt_link.specs.Bits.{bit_of}
use Rattle.lt_link.specs.Inbox.{InboxState, no_inbox}
use Rattle.lt_norm.specs.Flat.{Originated}
use Rattle.lt_place_reads.specs.declared.crossing.Crossing.{Crossing}
use Rattle.lt_place.specs.declared.layout.Layout.{Layout}
use Rattle.lt_place.specs.Layout.{IsPlaced, part_of, no_part}
use Rattle.lt_net_node.specs.declared.route.Route.{Route}
use Rattle.lt_net_bench.specs.declared.exit.Exit.{Exit}
use Rattle.lt_link.specs.declared.ports.Ports.{Ports}
use Rattle.lt_link.specs.Ports.{node_ports_of, no_ports}
use Rattle.lt_net_node.specs.Layout.{joins}
use Rattle.lt_net_node.specs.Local.{firsts}
use Rattle.lt_net_bench.specs.Track.{TrackState, track_at}
use Rattle.lt_net_node.specs.Channels.{FitsLayout}
use Rattle.lt_net_bench.specs.Starts.{literals_on, first_inbox, route_to, exit_for, most_fed, most_given, IsBlank, AreReady, ControllersAreAtStart}
use Rattle.lt_net_bench.proofs.FirstTables.{are_routes, are_exits, types_are, few_types, first_box, on_channel}
use Rattle.lt_net_bench.proofs.Firsts.{length-firsts, get-firsts}
use Rattle.lt_net_bench.specs.Bench.{BenchState}
use Rattle.lt_net_bench.specs.Room.{HasSizes, HasSpace}
use Rattle.lt_net_bench.specs.Standing.{StandsAt}
use Rattle.lt_machine.specs.declared.machine.Machine.{Ghosts as Machines}
use Rattle.lt_arch.specs.declared.controller.Controller.{Ghosts as Controls}

pub none_sent : (p : Protocol) → 0 - unsent (first_phase p) ≡ 0
none_sent BackPressure = refl
none_sent TimeBased = refl

no_fewer : (k : ℕ) → zero ≡ suc k → ⊥
no_fewer k e = absurd (omega (arith, e))

module _ {C M : Type 0} (ctl : Controls C) (mch : Machines M)
    (f : Originated) (l : Layout) (placed : IsPlaced f l) (s : Shape) (t : Timing) (rows : ℕ) (fits : FitsLayout l t.protocol s)
    (ms : List M) (ready : AreReady mch l rows ms) (cs : List C) (at_start : ControllersAreAtStart ctl s t cs)
    (executed : List ℕ) (executed_are : executed ≡ replicate (node_count s) 0) (boxes : List InboxState) (boxes_are : boxes ≡ map (first_inbox l.cross) s.channels) (buffers : List (List Value)) (buffers_are : buffers ≡ map (literals_on l.cross) s.channels)
    (tracks : List TrackState) (tracks_count : length tracks ≡ length l.outs) (blank : All (IsBlank rows) tracks)
    (routes : List Route) (routes_are : routes ≡ firsts (route_to l s.channels) (length l.cross)) (exits : List Exit) (exits_are : exits ≡ map (exit_for l.nodes) l.outs)
    (ports : List Ports) (ports_are : ports ≡ firsts (node_ports_of s.channels) (node_count s)) (values outs : ℕ) (values_are : values ≡ max (length l.cross) (most_fed l.nodes)) (outs_are : outs ≡ most_given l.nodes) where
  abbrev bench : BenchState C M
  bench = record {
    layout = l;
    shape = s;
    rows = rows;
    machines = ms;
    controllers = cs;
    executed = executed;
    inboxes = boxes;
    buffers = buffers;
    tracks = tracks;
    routes = routes;
    exits = exits;
    ports = ports;
    values = values;
    outs = outs;
  }

  box : (c : ℕ) (b : InboxState) → slice_get boxes c ≡ Some b → b ≡ first_inbox l.cross (chan_of s c)
  box = first_box l s boxes boxes_are

  pub none_executed : (n : ℕ) → n < node_count s → slice_index_or executed n 0 ≡ 0
  none_executed n lt = ap (λ xs. slice_index_or xs n 0) executed_are ∙ get_or-replicate (node_count s) n 0 0 lt

  pub blank_at : (y : ℕ) → y < length l.outs → IsBlank rows (track_at tracks y)
  blank_at y lt = blank y (record { cells = []; room = 0 }) (omega (arith, lt, tracks_count))

  pub begun_at : StandsAt ctl mch bench (start t.protocol) (λ n. []) (λ c. [])
  begun_at = record {
    phases = at_start.phases;
    rows = λ n lt. refl;
    messages = λ c lt. refl;
    fit = λ n lt. tt;
    ran = record { executed = none_executed; machines = ready.stand; steps_made = ready.unmade; cells = λ y n x yb nb gives. (blank_at y yb).empty };
    steps_left = λ n m h. let e = ready.enough n m h in omega (arith, e);
    payloads = λ c b h carries. ap (λ (z : InboxState). z.payload) (box c b h) ∙ ap (λ x. if x then map (λ (cr : Crossing). cr.first) (filter (joins (from_of s c) (to_of s c)) l.cross) else []) carries;
    bits = λ c b h. ap (λ (z : InboxState). z.bit) (box c b h);
    data_reads = λ c b h carries. ap (λ (z : InboxState). z.read) (box c b h) ∙ carries;
    ack_reads = λ c b h carries. ap (λ (z : InboxState). z.read) (box c b h) ∙ carries ∙ sym (ap bit_of (none_sent t.protocol));
    buffers = λ c k lt carries long. absurd (no_fewer k long);
  }

  pub sized_at : HasSizes bench
  sized_at = record {
    machines = ready.count;
    controllers = at_start.count;
    executed = ap length executed_are ∙ length-replicate (node_count s) 0;
    inboxes = ap length boxes_are ∙ length-map s.channels (first_inbox l.cross);
    buffers = ap length buffers_are ∙ length-map s.channels (literals_on l.cross);
    inbox_types = λ c lt. ap (λ (b : InboxState). map ty_of b.payload) (on_channel (first_inbox l.cross) s boxes boxes_are c no_inbox lt) ∙ types_are l s c;
    buffer_types = λ c lt. ap (map ty_of) (on_channel (literals_on l.cross) s buffers buffers_are c [] lt) ∙ types_are l s c;
  }

  fed : (n : ℕ) → n < length l.nodes → length (part_of l n).feeds ≤ values
  unfolding part_of
  fed n lt =
      let a = greatest-above (λ n. length (slice_index_or l.nodes n no_part).feeds) (length l.nodes) n lt in
      let b = le-max_right (length l.cross) (most_fed l.nodes) in
      omega (arith, a, b, values_are)

  given : (n : ℕ) → n < length l.nodes → length (part_of l n).outs ≤ outs
  unfolding part_of
  given n lt = let a = greatest-above (λ n. length (slice_index_or l.nodes n no_part).outs) (length l.nodes) n lt in omega (arith, a, outs_are)

  pub space_at : HasSpace bench
  space_at = record {
    messages = λ c lt. let a = few_types l s c in let b = le-max_left (length l.cross) (most_fed l.nodes) in omega (arith, a, b, values_are);
    inputs = fed;
    outputs = given;
    tracks = tracks_count;
    cells = λ y lt. let room = (blank_at y lt).room in omega (arith, room);
    routes = are_routes f l placed s routes routes_are;
    exits = are_exits f l placed exits exits_are;
    ports = λ n lt. record { there = omega (arith, lt, ap length ports_are, length-firsts (node_ports_of s.channels) (node_count s)); are = ap (λ ps. slice_index_or ps n no_ports) ports_are ∙ get-firsts (node_ports_of s.channels) (node_count s) n no_ports lt };
  }
