-- A bench that was started.
use Rattle.std.proofs.Common.{◌≡◌, ℕ, zero, suc, ◌+◌, ◌*◌, ◌^◌, ◌<◌, List, [], length, map, refl, sym, ap, ◌∙◌, subst, arith, All, replicate, Result, Ok, Err}
use Rattle.std.specs.Prelude.{slice_index_or, IfOk}
use Rattle.std.proofs.lemmas.List.{length-map, length-replicate, get_or-replicate}
use Rattle.std.proofs.lemmas.Option.{slice_get_within, get_or_from_slice_get}
use Rattle.lt_base.specs.declared.value.Value.{Value}
use Rattle.lt_arch.specs.declared.shape.Shape.{Shape}
use Rattle.lt_arch.specs.declared.timing.Timing.{Timing}
use Rattle.lt_arch.specs.declared.timing.Protocol.TheVariants.{BackPressure}
use Rattle.lt_arch.specs.State.{Wait, start, first_phase}
use Rattle.lt_arch.specs.Readers.{node_count, chan_count}
use Rattle.lt_arch.specs.Shapes.{HaveSameNodes}
use Rattle.lt_io.specs.FabricState.{FabricState, OpensFabric}
use Rattle.lt_lossy.specs.State.{lossy_start, plain_of}
use Rattle.lt_lossy.specs.Times.{LossyTimes, HasLossyTimes}
use Rattle.lt_lossy.specs.Window.{HasWindow}
use Rattle.lt_norm.specs.Flat.{Originated}
use Rattle.lt_place.specs.declared.layout.Layout.{Layout}
use Rattle.lt_place.specs.Layout.{IsPlaced}
use Rattle.lt_net_node.specs.Channels.{FitsLayout}
use Rattle.lt_net_bench.specs.Bench.{BenchState}
use Rattle.lt_net_bench.specs.Room.{HasSizes, HasSpace}
use Rattle.lt_net_bench.specs.Standing.{StandsAt}
use Rattle.lt_net_bench.specs.Starts.{AreReady, ControllersAreAtStart, kinds_for, types_on}
use Rattle.lt_net_bench.proofs.Begun.{begun_at, none_executed, blank_at, sized_at, space_at}
use Rattle.lt_net_bench.proofs.FirstTables.{types_are, on_channel}
use Rattle.lt_net_bench.proofs.LaidOut.{laid_out}
use Rattle.lt_net_lossy.specs.Net.{LossyBenchState, lossy_bench_of}
use Rattle.lt_net_lossy.specs.Stands.{StandsLossy}
use Rattle.lt_net_lossy.specs.Holds.{AreSent, OwnOn}
use Rattle.lt_net_lossy.specs.Kept.{IsFixedLossy}
use Rattle.lt_net_lossy.specs.Laws.{StandsWith}
use Rattle.lt_net_lossy.specs.Starts.{IsFirstBench, no_lossy_lists, IsMadeOfLossy, IsFreshLossy}
use Rattle.lt_net_lossy.specs.Taken.{HasLossyKinds, IsKeptLossy}
use Rattle.lt_base.specs.Value.{ty_of}
use Rattle.lt_machine.specs.declared.machine.Machine.{Ghosts as Machines}
use Rattle.lt_arch.specs.declared.controller.Controller.{Ghosts as Controls}

no_fewer : (k : ℕ) → zero ≡ suc k → ⊥
no_fewer k e = absurd (omega (arith, e))

-- what follows from what an answer has, it has too
pub if_ok_too : {T E : Type 0} (P Q : T → Type 0) → ((t : T) → P t → Q t) → (r : Result T E) → IfOk r P → IfOk r Q
if_ok_too P Q f (Ok t) h = f t h
if_ok_too P Q f (Err e) h = h

-- controllers at the start of back-pressure
pub at_start_of : {C : Type 0} (ctl : Controls C) (s : Shape) (t : Timing) → t.protocol ≡ BackPressure → (cs : List C) (count : ℕ) → count ≡ node_count s → length cs ≡ count → All (λ c. ctl.phase c ≡ Wait) cs → ControllersAreAtStart ctl s t cs
at_start_of ctl s t pressure cs count nodes size all = record {
  count = size ∙ nodes;
  phases = λ n c h. ap ctl.phase (sym (get_or_from_slice_get cs n c c h)) ∙ all n c (slice_get_within cs n c h) ∙ sym (ap first_phase pressure);
}

module _ {C M : Type 0} (ctl : Controls C) (mch : Machines M)
    (f : Originated) (l : Layout) (placed : IsPlaced f l) (s : Shape) (t : Timing) (losses rows : ℕ) (pressure : t.protocol ≡ BackPressure) (fits : FitsLayout l t.protocol s) (same : HaveSameNodes s t) (window : HasWindow t)
    (few : 2 * (node_count s + chan_count s) < 2 ^ 32) (ms : List M) (ready : AreReady mch l rows ms) (cs : List C) (at_start : ControllersAreAtStart ctl s t cs)
    (p : BenchState C M) (b : IsFirstBench l s rows ms cs p) (w : LossyTimes) (times : HasLossyTimes w s t losses lossy_start) (sent : List ℕ) (sent_are : sent ≡ replicate (node_count s) 0)
    (posted : List (List Value)) (posted_are : posted ≡ p.buffers) where
  abbrev first : BenchState C M
  first = record {
    layout = l;
    shape = s;
    rows = rows;
    machines = ms;
    controllers = cs;
    executed = p.executed;
    inboxes = p.inboxes;
    buffers = p.buffers;
    tracks = p.tracks;
    routes = p.routes;
    exits = p.exits;
    ports = p.ports;
    values = p.values;
    outs = p.outs;
  }

  first_is : p ≡ record {
    layout = l;
    shape = s;
    rows = rows;
    machines = ms;
    controllers = cs;
    executed = p.executed;
    inboxes = p.inboxes;
    buffers = p.buffers;
    tracks = p.tracks;
    routes = p.routes;
    exits = p.exits;
    ports = p.ports;
    values = p.values;
    outs = p.outs;
  }
  first_is = λ i. record {
    layout = b.layout i;
    shape = b.shape i;
    rows = b.rows i;
    machines = b.machines i;
    controllers = b.controllers i;
    executed = p.executed;
    inboxes = p.inboxes;
    buffers = p.buffers;
    tracks = p.tracks;
    routes = p.routes;
    exits = p.exits;
    ports = p.ports;
    values = p.values;
    outs = p.outs;
  }

  stood : StandsAt ctl mch first (plain_of lossy_start) (λ n. []) (λ c. [])
  stood =
      subst (λ q. StandsAt ctl mch first (start q) (λ n. []) (λ c. [])) pressure
      (begun_at ctl mch f l placed s t rows fits ms ready cs at_start p.executed b.executed p.inboxes b.inboxes p.buffers b.buffers p.tracks b.track_count b.blank p.routes b.routes p.exits b.exits p.ports b.ports p.values p.outs b.values b.outs)

  none_sent : (n : ℕ) → n < node_count s → slice_index_or sent n 0 ≡ 0
  none_sent n lt = ap (λ xs. slice_index_or xs n 0) sent_are ∙ get_or-replicate (node_count s) n 0 0 lt

  begun : StandsLossy ctl mch (lossy_bench_of first t w sent posted) no_lossy_lists
  begun = record {
    timely = tt;
    clean = tt;
    times = subst (λ k. HasLossyTimes w s t k lossy_start) (sym times.limit) times;
    bench = stood;
    sent = none_sent;
    posted = λ c k lt carries is. absurd (no_fewer k is);
  }

  sizes : HasSizes first
  sizes = sized_at ctl mch f l placed s t rows fits ms ready cs at_start p.executed b.executed p.inboxes b.inboxes p.buffers b.buffers p.tracks b.track_count b.blank p.routes b.routes p.exits b.exits p.ports b.ports p.values p.outs b.values b.outs

  space : HasSpace first
  space = space_at ctl mch f l placed s t rows fits ms ready cs at_start p.executed b.executed p.inboxes b.inboxes p.buffers b.buffers p.tracks b.track_count b.blank p.routes b.routes p.exits b.exits p.ports b.ports p.values p.outs b.values b.outs

  fixed : IsFixedLossy l s t
  fixed = record {
    whole = f.func;
    laid = laid_out f l placed;
    channels = fits.channels;
    few = omega (arith, few);
    protocol = pressure;
    partners = fits.back_pressure pressure;
    same_nodes = same;
    window = window;
  }

  pub made_of : IsMadeOfLossy l s t losses rows ms (lossy_bench_of p t w sent posted)
  made_of = record { layout = b.layout; shape = b.shape; timing = refl; limit = times.limit; rows = b.rows; machines = b.machines }

  pub fresh : IsFreshLossy ctl mch (lossy_bench_of p t w sent posted)
  fresh = subst (λ q. IsFreshLossy ctl mch (lossy_bench_of q t w sent posted)) (sym first_is) (record {
    stands_for = begun;
    counts = none_executed ctl mch f l placed s t rows fits ms ready cs at_start p.executed b.executed p.inboxes b.inboxes p.buffers b.buffers p.tracks b.track_count b.blank p.routes b.routes p.exits b.exits p.ports b.ports p.values p.outs b.values b.outs;
    cells = λ y lt. (blank_at ctl mch f l placed s t rows fits ms ready cs at_start p.executed b.executed p.inboxes b.inboxes p.buffers b.buffers p.tracks b.track_count b.blank p.routes b.routes p.exits b.exits p.ports b.ports p.values p.outs b.values b.outs y lt).empty;
  })

  pub kept : IsKeptLossy (lossy_bench_of p t w sent posted)
  kept = subst (λ q. IsKeptLossy (lossy_bench_of q t w sent posted)) (sym first_is) (record {
    fixed = fixed;
    sized = record {
      bench = sizes;
      lasts = times.node_count;
      queues = times.queue_count;
      losses = times.losses_count;
      sent = ap length sent_are ∙ length-replicate (node_count s) 0;
      posted = ap length posted_are ∙ sizes.buffers;
      posted_types = λ c lt. ap (λ (xs : List (List Value)). map ty_of (slice_index_or xs c [])) posted_are ∙ sizes.buffer_types c lt;
    };
    space = space;
  })

-- Over a fabric that was just opened.
module _ {C M : Type 0} (l : Layout) (s : Shape) (t : Timing) (losses rows : ℕ) (ms : List M) (net : LossyBenchState C M) (is : IsMadeOfLossy l s t losses rows ms net) (old new : FabricState) (opens : OpensFabric old new (kinds_for l s)) where
  opens_net : OpensFabric old new (kinds_for net.layout net.shape)
  opens_net = subst (λ ks. OpensFabric old new ks) (λ i. kinds_for (sym is.layout i) (sym is.shape i)) opens

  pub opened_kinds : HasLossyKinds net new
  opened_kinds = record {
    count = ap length opens_net.channels ∙ length-map net.shape.channels (types_on net.layout.cross);
    each = λ c lt. on_channel (types_on net.layout.cross) net.shape new.kinds opens_net.channels c [] lt ∙ types_are net.layout net.shape c;
  }

pub opened_with : {C M : Type 0} (ctl : Controls C) (mch : Machines M) (net : LossyBenchState C M) → IsFreshLossy ctl mch net → (l : Layout) (s : Shape) (old new : FabricState) → OpensFabric old new (kinds_for l s) →
    StandsWith ctl mch net no_lossy_lists new
opened_with ctl mch net fresh l s old new opens = record {
  standing = fresh.stands_for;
  holds = record { transit = λ c lt. subst (λ ms. AreSent (OwnOn net no_lossy_lists c) [] ms) (sym (opens.transit c)) tt };
}
