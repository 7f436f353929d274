-- A net after a node ran an instant, by what code has of it.
use Rattle.std.proofs.Common.{◌≡◌, ℕ, ◌<◌, List, [], ◌∷◌, ◌++◌, length, map, set, Option, Some, sym, subst, arith}
use Rattle.std.specs.Prelude.{slice_index_or}
use Rattle.lt_base.specs.declared.value.Value.{Value}
use Rattle.lt_base.specs.Value.{ty_of}
use Rattle.lt_base.specs.Program.{Function}
use Rattle.lt_arch.specs.declared.event.Deed.TheVariants.{Execute}
use Rattle.lt_arch.specs.declared.event.Event.TheVariants.{Act}
use Rattle.lt_arch.specs.Readers.{node_count, chan_count}
use Rattle.lt_arch.specs.Deeds.{deed_at, phase_at}
use Rattle.lt_arch.specs.Step.{sends_on}
use Rattle.lt_arch.specs.Schedule.{OnePlace}
use Rattle.lt_arch.specs.Times.{Times, SentOn}
use Rattle.lt_net_bench.specs.Changes.{ActsOn, GrowsByRow}
use Rattle.lt_net_node.specs.Channels.{HasChannels}
use Rattle.lt_net_bench.specs.Executes.{Executes}
use Rattle.lt_net_bench.specs.Given.{FitsPart}
use Rattle.lt_net_node.specs.Layout.{IsLaidOut}
use Rattle.lt_net_node.specs.Payloads.{types_for}
use Rattle.lt_net_bench.specs.Routes.{AreRoutes, AreExits}
use Rattle.lt_net_bench.specs.Standing.{HasRun, StandsAt}
use Rattle.lt_net_bench.proofs.InstantRun.{buffers_typed as payloads_typed, instant_ran as machines_ran, instant_at}
use Rattle.lt_net.specs.Net.{TimedBenchState, Lists, bench_of, reached_state}
use Rattle.lt_net.specs.Stands.{NetStands}
use Rattle.lt_net.specs.Kept.{IsSized}
use Rattle.lt_net.proofs.Activations.{clean_next, timely_next, times_are, acts_on, ahead, ahead_next}
use Rattle.lt_net.proofs.EndStands.{Passes}
use Rattle.lt_net.proofs.Benches.{sizes_of}
use Rattle.lt_machine.specs.declared.machine.Machine.{Ghosts as Machines}
use Rattle.lt_arch.specs.declared.controller.Controller.{Ghosts as Controls}

module _ {C M : Type 0} (ctl : Controls C) (mch : Machines M) (net : TimedBenchState C M) (n at : ℕ) (f : Function) (laid : IsLaidOut f net.layout) (channels : HasChannels net.layout net.shape)
    (one_place : OnePlace net.shape net.timing net.rows) (routes : AreRoutes net.layout net.shape net.routes) (exits : AreExits net.layout net.exits) (sized : IsSized net) (tracks : length net.tracks ≡ length net.layout.outs)
    (ls next : Lists) (s : NetStands ctl mch net ls) (offence : Passes net.shape net.timing (reached_state net ls) (Act n at)) (events : next.events ≡ ls.events ++ Act n at ∷ []) (got : (c : ℕ) → next.got c ≡ ls.got c)
    (nb : n < node_count net.shape) (executes : deed_at net.shape net.rows (reached_state net ls) n ≡ Execute) (row : List Value) (takes : GrowsByRow ls.inputs next.inputs n row) (fits : FitsPart net.layout n row)
    (cs : List C) (mid : TimedBenchState C M) (ex : Executes mch (record (bench_of net) { controllers = cs }) (bench_of mid) n row) where
  acts_execute : ActsOn n Execute (phase_at net.shape net.timing net.rows (reached_state net ls) n) (reached_state net ls) (reached_state net next)
  acts_execute = subst (λ d. ActsOn n d (phase_at net.shape net.timing net.rows (reached_state net ls) n) (reached_state net ls) (reached_state net next)) executes (acts_on ctl mch net n at one_place ls next s offence events)

  got_is : next.got ≡ ls.got
  got_is = λ i c. got c i

  pub buffers_typed : (c : ℕ) → c < chan_count net.shape → map ty_of (slice_index_or mid.buffers c []) ≡ types_for net.layout net.shape c
  buffers_typed =
      payloads_typed ctl mch (bench_of net) n f laid channels routes exits (sizes_of net sized) tracks (phase_at net.shape net.timing net.rows (reached_state net ls) n) (reached_state net ls) (reached_state net next) ls.inputs next.inputs ls.got s.bench acts_execute
      (ahead ctl mch net n at one_place ls next s offence events) (ahead_next ctl mch net n at one_place ls next s offence events) nb row takes fits cs (bench_of mid) ex

  -- the machines have run the instant
  pub instant_ran : HasRun mch net.layout net.shape (set net.machines n ex.after) mid.executed mid.tracks next.inputs next.got
  instant_ran =
      subst (λ g. HasRun mch net.layout net.shape (set net.machines n ex.after) mid.executed mid.tracks next.inputs g) (sym got_is)
      (machines_ran ctl mch (bench_of net) n f laid channels routes exits (sizes_of net sized) tracks (phase_at net.shape net.timing net.rows (reached_state net ls) n) (reached_state net ls) (reached_state net next) ls.inputs next.inputs ls.got s.bench acts_execute
      (ahead ctl mch net n at one_place ls next s offence events) (ahead_next ctl mch net n at one_place ls next s offence events) nb row takes fits cs (bench_of mid) ex)

  module _ (w : Times) (sends : List (Option ℕ)) (on : SentOn (sends_on net.shape net.timing n (deed_at net.shape net.rows (reached_state net ls) n)) at net.watch.sends sends)
      (watch : w ≡ record net.watch { lasts = set net.watch.lasts n (Some at); sends = sends; latest = Some at })
      (control : C) (controls : cs ≡ set net.controllers n control) (within : n < length net.controllers) (woke : ctl.phase control ≡ phase_at net.shape net.timing net.rows (reached_state net ls) n) where
    -- the net stands for the lists with the instant
    pub instant_stands : NetStands ctl mch (record net { watch = w; controllers = cs; machines = set net.machines n ex.after; executed = mid.executed; inboxes = mid.inboxes; tracks = mid.tracks; buffers = mid.buffers }) next
    instant_stands = record {
      timely = timely_next ctl mch net n at one_place ls next s offence events;
      clean = clean_next ctl mch net n at one_place ls next s offence events;
      times = times_are ctl mch net n at one_place ls next s offence events (omega (arith, nb, sized.lasts)) w sends on watch;
      bench = subst (λ g. StandsAt ctl mch (record (bench_of net) { controllers = cs; machines = set net.machines n ex.after; executed = mid.executed; inboxes = mid.inboxes; tracks = mid.tracks; buffers = mid.buffers }) (reached_state net next) next.inputs g) (sym got_is)
          (instant_at ctl mch (bench_of net) n f laid channels routes exits (sizes_of net sized) tracks (phase_at net.shape net.timing net.rows (reached_state net ls) n) (reached_state net ls) (reached_state net next) ls.inputs next.inputs ls.got s.bench acts_execute
          (ahead ctl mch net n at one_place ls next s offence events) (ahead_next ctl mch net n at one_place ls next s offence events) nb row takes fits cs (bench_of mid) ex control controls within woke);
    }
